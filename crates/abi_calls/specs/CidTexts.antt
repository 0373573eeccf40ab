-- What callers in other languages get for texts of CIDs.
use Rattle.std.specs.Prelude.{◌≡◌, ◌⊎◌, ℕ, ℤ, pos, negsuc, List, length, if◌then◌else◌, nat_lt}
use Rattle.ipld_tree.specs.Cid.{CidParts, AreCidParts, cid_bytes, IsCid}
use Rattle.text_cid.specs.Texts.{cid_text, IsTextOf, IsTextFault}
use Rattle.text_cid.specs.declared.error.CidTextError.{CidTextError}
use Rattle.abi_calls.specs.Codes.{text_fault_code}
use Rattle.lent_memory.specs.Puts.{with_front}

-- the number `done`, or -21 if there is no room for the bytes
abbrev pub room_code : ℤ → List ℕ → List ℕ → ℤ
room_code done bytes old = if nat_lt (length old) (length bytes) then negsuc 20 else done

-- the bytes are counted, and put at the front of the memory if they all fit; if not, nothing is
-- changed there
pub record IsPutText (done : ℤ) (bytes old new : List ℕ) (needed : ℕ) (code : ℤ) : Type 0 where
  pub counted : needed ≡ length bytes
  pub stand : new ≡ with_front bytes old
  pub told : code ≡ room_code done bytes old

-- nothing is needed, and nothing changed
pub record PutsNone (old new : List ℕ) (needed : ℕ) : Type 0 where
  pub none : needed ≡ 0
  pub same : new ≡ old

-- the text of the CID that the bytes are is put; or they are not a CID, and -26 is returned
abbrev pub IsCidTextAnswer : List ℕ → List ℕ → List ℕ → ℕ → ℤ → Type 0
IsCidTextAnswer b old new needed code =
    ((c : CidParts) × AreCidParts c × (b ≡ cid_bytes c) × IsPutText (pos 0) (cid_text c) old new needed code)
    ⊎ ((¬ IsCid b) × (code ≡ negsuc 25) × PutsNone old new needed)

-- the binary form of the CID with this text is put; or the text is not that of a CID, and the
-- number of the one fault in it is returned
abbrev pub IsCidFromTextAnswer : List ℕ → List ℕ → List ℕ → ℕ → ℤ → Type 0
IsCidFromTextAnswer text old new needed code =
    ((c : CidParts) × IsTextOf text c × IsPutText (pos 0) (cid_bytes c) old new needed code)
    ⊎ ((e : CidTextError) × ((c : CidParts) → ¬ IsTextOf text c) × IsTextFault e text
    × (code ≡ text_fault_code e) × PutsNone old new needed)
