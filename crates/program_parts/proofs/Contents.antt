-- How far a file is read.
use Rattle.std.proofs.Common.{◌≡◌, ◌⊎◌, inl, inr, ℕ, List, [], ◌∷◌, ◌++◌, Bool, true, false, refl, sym, ap, ◌∙◌, subst, append_assoc, append-nil, Option, None, Some, Ok, Err}
use Rattle.std.specs.Io.KnownBytes.{Appends}
use Rattle.std.proofs.KnownBytes.{Appends-nil, Appends-trans}
use Rattle.program_shared.specs.declared.fault.ToolError.{ToolError}
use Rattle.ipld_links.specs.Verdicts.{IsVerified, IsVerdict}
use Rattle.ipld_links.specs.Blocks.{NamedBlock}
use Rattle.ipld_links.specs.declared.verdict.Verdict.{Verdict}
use Rattle.ipld_links.specs.declared.verdict.Verdict.TheVariants as verdicts
use Rattle.program_parts.specs.Lines.{is_well}
use Rattle.program_parts.specs.declared.stop.Stop.{Stop}
use Rattle.program_parts.specs.Stops.{is_of_file, stop_line}
use Rattle.ipld_tree.specs.Cid.{CidParts, cid_bytes}
use Rattle.ipld_links.specs.Reaching.{Stored}
use Rattle.files_unix_fs.specs.Files.{joined, bytes_under}
use Rattle.files_unix_fs.specs.Reading.{Asked, stack_bytes}
use Rattle.program_parts.specs.Content.{IsReadTo, IsReadOn, IsFrontOfPart, IsFrontOfContent, IsNextName, IsStopAt, EndsAt, SaysNext, TellsStop, TellsFront, SaysContent, most_depth}

pub joined_nothing : (x : Option (List ℕ)) → joined (Some []) x ≡ x
joined_nothing None = refl
joined_nothing (Some s) = refl

pub joined_on : (a b : List ℕ) (x : Option (List ℕ)) → joined (Some a) (joined (Some b) x) ≡ joined (Some (a ++ b)) x
joined_on a b None = refl
joined_on a b (Some s) = ap Some (sym (append_assoc a b s))

-- one more part
pub read_further : (stored : Stored) (root : CidParts) (out piece : List ℕ) (wanted left : List Asked) → IsReadTo stored root out wanted → IsReadOn stored wanted piece left → IsReadTo stored root (out ++ piece) left
read_further stored root out piece wanted left h k = λ blocks holds. h blocks holds ∙ ap (joined (Some out)) (k blocks holds) ∙ joined_on out piece (stack_bytes blocks left)

-- nothing more
pub read_nothing : (stored : Stored) (wanted : List Asked) → IsReadOn stored wanted [] wanted
read_nothing stored wanted = λ blocks holds. sym (joined_nothing (stack_bytes blocks wanted))

pub front_of_none : (stored : Stored) (wanted : List Asked) → IsFrontOfPart stored wanted []
front_of_none stored wanted = ([], wanted, read_nothing stored wanted)

pub front_further : (stored : Stored) (root : CidParts) (out front : List ℕ) (wanted : List Asked) → IsReadTo stored root out wanted → IsFrontOfPart stored wanted front → IsFrontOfContent stored root (out ++ front)
front_further stored root out front wanted h k = (k.0, k.1, subst (λ x. IsReadTo stored root x k.1) (sym (append_assoc out front k.0)) (read_further stored root out (front ++ k.0) wanted k.1 h k.2))

-- if the verdict finds nothing wrong, the bytes match the CID
pub well_verified : (s : NamedBlock) (v : Verdict) → IsVerdict s v → is_well v ≡ true → IsVerified s
well_verified s (verdicts.Block kind) h w = h.0
well_verified s verdicts.Node h w = h.0
well_verified s verdicts.NotRead h w = h.0
well_verified s verdicts.LinksNotRead h w = h.0
well_verified s (verdicts.Refused e) h w = h.0
well_verified s (verdicts.NoNode e) h w = h.0
well_verified s verdicts.OtherBytes h w = absurd (cc w)
well_verified s verdicts.Unverified h w = absurd (cc w)

-- ---- one block

-- a part that was written whole
pub part_said : (stored : Stored) (wanted left : List Asked) (piece front back : List ℕ) (old heard new : Option (List ℕ)) → piece ≡ front ++ back → back ≡ [] → Appends old new front → IsReadOn stored wanted piece left
    → SaysNext {E = ToolError} stored wanted left old heard (Ok None) new heard
part_said stored wanted left piece front back old heard new is none out h =
    (piece, h, subst (Appends old new) (sym (is ∙ ap (λ x. front ++ x) none ∙ append-nil front)) out, Appends-nil heard)

-- a part of which a prefix was written
pub part_broken : (stored : Stored) (wanted left : List Asked) (piece front back : List ℕ) (old heard new : Option (List ℕ)) (e : ToolError) → piece ≡ front ++ back → Appends old new front → IsReadOn stored wanted piece left
    → SaysNext stored wanted left old heard (Err e) new heard
part_broken stored wanted left piece front back old heard new e is out h =
    (front, [], (back, left, subst (λ x. IsReadOn stored wanted x left) is h), inl refl, out, Appends-nil heard)

-- the file ends at a block
pub ends_at : (stored : Stored) (wanted below : List Asked) (w : Asked) (name : CidParts) (stop : Stop) (told : List ℕ) → IsNextName wanted below w name → IsStopAt stored name w stop → is_of_file stop ≡ true → told ≡ stop_line name stop → EndsAt stored wanted false told
ends_at stored wanted below w name stop told next is of_file said = inr (below, w, name, stop, next, is, of_file, refl, said)

pub stop_said : (stored : Stored) (wanted left below : List Asked) (w : Asked) (name : CidParts) (stop : Stop) (old heard after : Option (List ℕ)) → IsNextName wanted below w name → IsStopAt stored name w stop → TellsStop name stop heard (Ok tt) after
    → SaysNext {E = ToolError} stored wanted left old heard (Ok (Some false)) old after
stop_said stored wanted left below w name stop old heard after next is k =
    (stop_line name stop, ends_at stored wanted below w name stop (stop_line name stop) next is k.0 refl, Appends-nil old, k.1)

pub stop_broken : (stored : Stored) (wanted left below : List Asked) (w : Asked) (name : CidParts) (stop : Stop) (old heard after : Option (List ℕ)) (e : ToolError) → IsNextName wanted below w name → IsStopAt stored name w stop → TellsStop name stop heard (Err e) after
    → SaysNext stored wanted left old heard (Err e) old after
stop_broken stored wanted left below w name stop old heard after e next is (inl none) = ([], [], front_of_none stored wanted, inl refl, Appends-nil old, none)
stop_broken stored wanted left below w name stop old heard after e next is (inr k) =
    ([], k.1.0, front_of_none stored wanted, inr (refl, (k.1.1, ends_at stored wanted below w name stop (k.1.0 ++ k.1.1) next is k.0 (sym k.1.2))), Appends-nil old, k.1.3)

-- ---- a file

abbrev first_wanted : CidParts → Asked
first_wanted root = record { cid = cid_bytes root; size = None; depth = most_depth }

nothing_read : (stored : Stored) (root : CidParts) → IsReadTo stored root [] (first_wanted root ∷ [])
nothing_read stored root = λ blocks holds.
    let b = bytes_under blocks most_depth (cid_bytes root) in
    sym (joined_nothing (joined (Some []) b) ∙ joined_nothing b)

-- nothing was written
pub content_not_begun : {E : Type 0} (stored : Stored) (root : CidParts) (old heard : Option (List ℕ)) (e : E) → SaysContent stored root old heard (Err e) old heard
content_not_begun stored root old heard e =
    ([], [], ([], first_wanted root ∷ [], nothing_read stored root), inl refl, Appends-nil old, Appends-nil heard)

-- the output after some of the file was read
abbrev pub HasSaid : Stored → CidParts → List Asked → Option (List ℕ) → Option (List ℕ) → Option (List ℕ) → Option (List ℕ) → Type 0
HasSaid stored root wanted old heard new after = (out : List ℕ) × IsReadTo stored root out wanted × Appends old new out × Appends heard after []

pub content_begun : (stored : Stored) (root : CidParts) (wanted : List Asked) (old heard : Option (List ℕ)) → IsReadTo stored root [] wanted → HasSaid stored root wanted old heard old heard
content_begun stored root wanted old heard h = ([], h, Appends-nil old, Appends-nil heard)

-- and then one more part
pub content_on : (stored : Stored) (root : CidParts) (wanted left : List Asked) (old heard mid said new after : Option (List ℕ)) → HasSaid stored root wanted old heard mid said → SaysNext {E = ToolError} stored wanted left mid said (Ok None) new after
    → HasSaid stored root left old heard new after
content_on stored root wanted left old heard mid said new after h k =
    (h.0 ++ k.0, read_further stored root h.0 k.0 wanted left h.1 k.1, Appends-trans old mid new h.0 k.0 h.2 k.2, Appends-trans heard said after [] [] h.3 k.3)

-- and then the end
pub content_ended : (stored : Stored) (root : CidParts) (wanted left : List Asked) (well : Bool) (old heard mid said new after : Option (List ℕ)) → HasSaid stored root wanted old heard mid said → SaysNext {E = ToolError} stored wanted left mid said (Ok (Some well)) new after
    → SaysContent {E = ToolError} stored root old heard (Ok well) new after
content_ended stored root wanted left well old heard mid said new after h k =
    (h.0, k.0, (wanted, h.1, k.1), subst (Appends old new) (append-nil h.0) (Appends-trans old mid new h.0 [] h.2 k.2), Appends-trans heard said after [] k.0 h.3 k.3)

-- and then a device failed, or memory ran out
pub content_broken : {E : Type 0} (stored : Stored) (root : CidParts) (wanted left : List Asked) (e : E) (old heard mid said new after : Option (List ℕ)) → HasSaid stored root wanted old heard mid said → SaysNext stored wanted left mid said (Err e) new after
    → SaysContent stored root old heard (Err e) new after
content_broken stored root wanted left e old heard mid said new after h k =
    (h.0 ++ k.0, k.1, front_further stored root h.0 k.0 wanted h.1 k.2, told k.3, Appends-trans old mid new h.0 k.0 h.2 k.4, Appends-trans heard said after [] k.1 h.3 k.5)
  where
    told : ((k.1 ≡ []) ⊎ ((k.0 ≡ []) × ((more : List ℕ) × EndsAt stored wanted false (k.1 ++ more)))) → TellsFront stored root (h.0 ++ k.0) k.1
    told (inl none) = inl none
    told (inr t) = inr (t.1.0, (wanted, subst (λ x. IsReadTo stored root x wanted) (sym (ap (λ x. h.0 ++ x) t.0 ∙ append-nil h.0)) h.1, t.1.1))

-- and no more
pub content_endless : {E : Type 0} (stored : Stored) (root : CidParts) (wanted : List Asked) (e : E) (old heard new after : Option (List ℕ)) → HasSaid stored root wanted old heard new after → SaysContent stored root old heard (Err e) new after
content_endless stored root wanted e old heard new after h =
    (h.0, [], ([], wanted, subst (λ x. IsReadTo stored root x wanted) (sym (append-nil h.0)) h.1), inl refl, h.2, h.3)
