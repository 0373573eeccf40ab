-- The end of a path, and the output for it.
use Rattle.std.proofs.Common.{◌≡◌, inl, inr, ℕ, List, [], ◌++◌, Bool, true, false, refl, ◌∙◌, subst, Option, None, Some, Result, Ok, Err, IsErrAnd}
use Rattle.std.specs.Io.KnownBytes.{Appends}
use Rattle.std.proofs.KnownBytes.{Appends-nil}
use Rattle.ipld_tree.specs.Cid.{CidParts}
use Rattle.ipld_tree.specs.Tree.{Tree}
use Rattle.dagcbor_decode.specs.Blocks.{IsBlock}
use Rattle.dagcbor_decode.proofs.Laws.{refused_no_block, refused_for}
use Rattle.ipld_links.specs.Reaching.{Stored}
use Rattle.ipld_paths.specs.Resolving.{Resolves}
use Rattle.ipld_paths.specs.Laws.{Leads, GivesItem}
use Rattle.ipld_paths.proofs.Binding.{block_unique}
use Rattle.ipld_paths.specs.declared.resolution.End.{End}
use Rattle.ipld_paths.specs.declared.resolution.End.TheVariants as ends
use Rattle.ipld_paths.specs.declared.resolution.Resolved.{Resolved}
use Rattle.program_parts.specs.Lines.{SaysBoth}
use Rattle.program_shared.specs.declared.fault.ToolError.{ToolError}
use Rattle.program_shared.specs.declared.fault.ToolError.TheVariants.{Output}
use Rattle.program_parts.specs.Ends.{end_line, IsNoItem, IsToldAt}
use Rattle.program_parts.specs.Raw.{IsRawOf}
use Rattle.program_parts.specs.Shown.{IsShown}
use Rattle.program_parts.specs.Paths.{IsAtOf}
use Rattle.program_parts.specs.Proof.{IsDecided, IsProofFile, IsProofOf}

-- ---- an item, or none

pub item_led : {A : Type 0} (bytes_of : A → List ℕ) (stored : Stored) (root : CidParts) (path : List (List ℕ)) (end : End) (a : A) → GivesItem bytes_of stored root path end (Some a) → (n : ℕ) × (u : Tree) × Leads n stored root path (Some u) × IsBlock (bytes_of a) u
item_led bytes_of stored root path (ends.Item kind place end) a h = h
item_led bytes_of stored root path _ a h = absurd h

pub shown_at : {A : Type 0} (bytes_of : A → List ℕ) (stored : Stored) (root : CidParts) (path : List (List ℕ)) (end : End) (a : A) → GivesItem bytes_of stored root path end (Some a) → (well : Bool) (said told : List ℕ) → IsShown (bytes_of a) well said told → IsAtOf stored root path well said told
shown_at bytes_of stored root path end a h well said told (inl k) =
    let l = item_led bytes_of stored root path end a h in
    inl (l.0, k.0, subst (λ u. Leads l.0 stored root path (Some u)) (block_unique (bytes_of a) l.1 k.0 l.3 k.1) l.2, k.2, k.3, k.4)
shown_at bytes_of stored root path end a h well said told (inr k) =
    let l = item_led bytes_of stored root path end a h in
    absurd (refused_no_block (bytes_of a) k.0 l.1 (refused_for (bytes_of a) k.0 k.1 k.2) l.3)

none_led : {A : Type 0} (bytes_of : A → List ℕ) (stored : Stored) (root : CidParts) (path : List (List ℕ)) (end : End) → GivesItem {A = A} bytes_of stored root path end None → IsNoItem end
none_led bytes_of stored root path (ends.Item kind place end) h = h
none_led bytes_of stored root path _ h = tt

-- the error output for a path that does not lead to an item
abbrev pub IsEndTold : Resolved → Bool → List ℕ → List ℕ → Type 0
IsEndTold r well said told = (well ≡ false) × (said ≡ []) × (told ≡ end_line r.block r.end)

pub end_told : {A : Type 0} (bytes_of : A → List ℕ) (stored : Stored) (root : CidParts) (path : List (List ℕ)) (r : Resolved) → Resolves stored root path r → GivesItem {A = A} bytes_of stored root path r.end None → (well : Bool) (said told : List ℕ) → IsEndTold r well said told → IsToldAt stored root path well said told
end_told bytes_of stored root path r h none well said told k = (r, h, none_led bytes_of stored root path r.end none, k.0, k.1, k.2)

-- ---- the bytes of an item

module _ {A : Type 0} (bytes_of : A → List ℕ) (stored : Stored) (root : CidParts) (path : List (List ℕ)) (end : End) (a : A) (given : GivesItem bytes_of stored root path end (Some a)) where
  is_raw : (out : List ℕ) → bytes_of a ≡ out → IsRawOf stored root path true out []
  is_raw out is = let l = item_led bytes_of stored root path end a given in inl (l.0, l.1, l.2, refl, subst (λ b. IsBlock b l.1) is l.3, refl)

  pub raw_written : (old heard new : Option (List ℕ)) → Appends old new (bytes_of a) → SaysBoth (IsRawOf stored root path) old heard (Ok true) new heard
  raw_written old heard new out = (bytes_of a, [], is_raw (bytes_of a) refl, out, Appends-nil heard)

  pub raw_broken : (old heard new : Option (List ℕ)) (r : Result Bool ToolError) (e : ToolError) → IsErrAnd r (λ x. x ≡ e) → e ≡ Output → ((front back : List ℕ) × (bytes_of a ≡ front ++ back) × Appends old new front) → SaysBoth (IsRawOf stored root path) old heard r new heard
  raw_broken old heard new (Ok w) e is fault k = absurd is
  raw_broken old heard new (Err x) e is fault k = inr (true, k.0, k.1, [], [], is_raw (k.0 ++ k.1) k.2, is ∙ fault, k.3, Appends-nil heard)

-- ---- a proof

pub proof_given : (stored : Stored) (root : CidParts) (path : List (List ℕ)) (r : Resolved) (file : List ℕ) → Resolves stored root path r → IsDecided r.end → IsProofFile stored root path file → IsProofOf stored root path true file []
proof_given stored root path r file h is proof = (r, h, inl (is, proof, refl, refl))

pub undecided_told : (stored : Stored) (root : CidParts) (path : List (List ℕ)) (r : Resolved) → Resolves stored root path r → ¬ IsDecided r.end → (well : Bool) (said told : List ℕ) → IsEndTold r well said told → IsProofOf stored root path well said told
undecided_told stored root path r h not well said told k = (r, h, inr (not, k.0, k.1, k.2))
