-- Appending a file to a writer.
use Rattle.std.proofs.Common.{◌≡◌, ℕ, List, length, Some, Result, subst, IsErrAnd}
use Rattle.dagcbor_heads.specs.Written.{Written, WroteAll, Stops, Writes}
use Rattle.dagcbor_core.specs.declared.error.EncodeError.{EncodeError}
use Rattle.dagcbor_heads.proofs.Writing.{Writes_exit, Writes_then}
use Rattle.ipld_tree.specs.Cid.{varint, cid_bytes}
use Rattle.files_car.specs.Car.{Section, section_body, section_bytes}

-- the length of a section is out
pub length_out : (s : Section) (n : ℕ) (old new : Written) → n ≡ length (section_body s) → WroteAll (Some (varint n)) old new → WroteAll (Some (varint (length (section_body s)))) old new
length_out s n old new is w = subst (λ m. WroteAll (Some (varint m)) old new) is w

pub length_refused : {T E : Type 0} (s : Section) (n : ℕ) (old new : Written) (r : Result T (EncodeError E)) (e : EncodeError E) → n ≡ length (section_body s) → IsErrAnd r (λ d. d ≡ e) → Stops (Some (varint n)) old new e → Writes (Some (section_bytes s)) old new r
length_refused s n old new r e is err stops =
    Writes_exit (Some (varint (length (section_body s)))) (Some (section_body s)) old new r e err (subst (λ m. Stops (Some (varint m)) old new e) is stops)

pub name_refused : {T E : Type 0} (s : Section) (name : List ℕ) (old mid new : Written) (r : Result T (EncodeError E)) (e : EncodeError E) → name ≡ cid_bytes s.0 → WroteAll (Some (varint (length (section_body s)))) old mid → IsErrAnd r (λ d. d ≡ e)
    → Stops (Some name) mid new e → Writes (Some (section_bytes s)) old new r
name_refused s name old mid new r e is w err stops =
    Writes_then (Some (varint (length (section_body s)))) (Some (section_body s)) old mid new r w (Writes_exit (Some (cid_bytes s.0)) (Some s.1) mid new r e err (subst (λ x. Stops (Some x) mid new e) is stops))

pub block_pushed : {T E : Type 0} (s : Section) (name : List ℕ) (old mid next new : Written) (r : Result T (EncodeError E)) → name ≡ cid_bytes s.0 → WroteAll (Some (varint (length (section_body s)))) old mid → WroteAll (Some name) mid next
    → Writes (Some s.1) next new r → Writes (Some (section_bytes s)) old new r
block_pushed s name old mid next new r is w v block =
    Writes_then (Some (varint (length (section_body s)))) (Some (section_body s)) old mid new r w (Writes_then (Some (cid_bytes s.0)) (Some s.1) mid next new r (subst (λ x. WroteAll (Some x) mid next) is v) block)
