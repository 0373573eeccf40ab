use Rattle.std.proofs.Common.{◌≡◌, ℕ, ◌^◌, ◌<◌, arith, Less, Greater, List, [], ◌∷◌, ◌++◌, inr}
use Rattle.std.proofs.lemmas.Cmp.{ranked}
use Rattle.std.proofs.lemmas.Result.{err_from_is_err_and}
use Rattle.ipld_tree.specs.Cid.{varint, IsCid}
use Rattle.ipld_tree.specs.CidFault.{HasVarints, IsFault}
use Rattle.ipld_tree.specs.declared.cid_error.CidError.{CidError}
use Rattle.ipld_tree.specs.declared.cid_error.CidError.TheVariants.{DigestTooLong, Truncated, TrailingBytes}
use Rattle.ipld_tree.proofs.CidFaults.{no_varint, one_varint_more, varint_fault, fault_no_cid}
use Rattle.ipld_tree.proofs.cid.read_version_1.Goals as goal

-- what a varint that was read says
abbrev Read : List ℕ → ℕ → List ℕ → Type 0
Read b n rest = (n < 2 ^ 64) × (b ≡ varint n ++ rest)

one : {s r : List ℕ} (j : ℕ) → Read s j r → HasVarints (0x01 ∷ s) (j ∷ []) r
one {s} {r} j h = one_varint_more j r (no_varint s) h

two : {s r t : List ℕ} (j k : ℕ) → Read s j r → Read r k t → HasVarints (0x01 ∷ s) (j ∷ k ∷ []) t
two {s} {r} {t} j k h i = one_varint_more k t (one j h) i

three : {s r t d : List ℕ} (j k n : ℕ) → Read s j r → Read r k t → Read t n d → HasVarints (0x01 ∷ s) (j ∷ k ∷ n ∷ []) d
three {s} {r} {t} {d} j k n h i l = one_varint_more n d (two j k h i) l

fault_refuses : (e : CidError) (b : List ℕ) → IsFault e b → (IsCid b → ⊥) × IsFault e b
fault_refuses e b f = (fault_no_cid e b f, f)

pub returns-in_err-codec : goal.returns-in_err-codec
returns-in_err-codec c =
    let p = err_from_is_err_and c.from_residual.result c.from_residual.ensures.1 in
    rw (p.1, p.2) (fault_refuses _ _ (varint_fault c.in_err-codec.field-0.0 _ [] _ (no_varint _) (omega arith) c.in_err-codec.ensures))

pub returns-in_err-hash_code : goal.returns-in_err-hash_code
returns-in_err-hash_code c =
    let p = err_from_is_err_and c.from_residual-in_err-hash_code.result c.from_residual-in_err-hash_code.ensures.1 in
    rw (p.1, p.2) (fault_refuses _ _ (varint_fault c.in_err-hash_code.field-0.0 _ _ _ (one c.in_ok-codec.codec c.in_ok-codec.ensures) (omega arith) c.in_err-hash_code.ensures))

pub returns-in_err-length : goal.returns-in_err-length
returns-in_err-length c =
    let p = err_from_is_err_and c.from_residual-in_err-length.result c.from_residual-in_err-length.ensures.1 in
    rw (p.1, p.2) (fault_refuses _ _ (varint_fault c.in_err-length.field-0.0 _ _ _ (two c.in_ok-codec.codec c.in_ok-hash_code.hash_code c.in_ok-codec.ensures c.in_ok-hash_code.ensures) (omega arith) c.in_err-length.ensures))

pub returns-then-length : goal.returns-then-length
returns-then-length c =
    let varints = three c.in_ok-codec.codec c.in_ok-hash_code.hash_code c.in_ok-length.length c.in_ok-codec.ensures c.in_ok-hash_code.ensures c.in_ok-length.ensures in
    let at : IsFault DigestTooLong (0x01 ∷ c.args.following.now) = (_, _, _, _, varints, c.if-length.true) in
    fault_refuses DigestTooLong _ at

pub returns-in-Less : goal.returns-in-Less
returns-in-Less c =
    let varints = three c.in_ok-codec.codec c.in_ok-hash_code.hash_code c.in_ok-length.length c.in_ok-codec.ensures c.in_ok-hash_code.ensures c.in_ok-length.ensures in
    let at : IsFault Truncated (0x01 ∷ c.args.following.now) = inr (inr (_, _, _, _, varints, (c.if-length.false, ranked _ _ Less c.in-Less.ensures))) in
    fault_refuses Truncated _ at

pub returns-in-Greater : goal.returns-in-Greater
returns-in-Greater c =
    let varints = three c.in_ok-codec.codec c.in_ok-hash_code.hash_code c.in_ok-length.length c.in_ok-codec.ensures c.in_ok-hash_code.ensures c.in_ok-length.ensures in
    let at : IsFault TrailingBytes (0x01 ∷ c.args.following.now) = (_, _, _, _, varints, (c.if-length.false, ranked _ _ Greater c.in-Greater.ensures)) in
    fault_refuses TrailingBytes _ at
