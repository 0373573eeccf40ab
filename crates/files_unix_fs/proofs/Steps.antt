-- A message, read field by field.
use Rattle.std.proofs.Common.{◌≡◌, ◌≢◌, ℕ, zero, suc, ◌-◌, ◌<◌, ◌≤◌, List, [], ◌∷◌, ◌++◌, length, Result, Ok, Err, Bool, true, nat_eq, eqb-true, refl, sym, ap, ◌∙◌, arith}
use Rattle.files_unix_fs.specs.declared.error.UnixFsCause.{UnixFsCause}
use Rattle.files_unix_fs.specs.declared.error.UnixFsCause.TheVariants.{Truncated}
use Rattle.files_unix_fs.specs.declared.error.UnixFsError.{UnixFsError}
use Rattle.files_unix_fs.specs.Fields.{Front, Value, field_of, found_with, found_from, found_in, varint_of, groups_of}
use Rattle.files_unix_fs.specs.UnixFs.{SaidParts, nothing_said, with_field, then_rest, said_next, or_at, said_from, said_of}
use Rattle.files_unix_fs.proofs.Fronts.{after_split, ok_rest, no_ok, field_shorter}

-- ---- the values of fields

then_split : (rest : List ℕ) (r : Result SaidParts UnixFsCause) (next : SaidParts) (left : List ℕ) → then_rest rest r ≡ Ok (next, left) → rest ≡ left
then_split rest (Ok said) next left e = ok_rest said next rest left e
then_split rest (Err cause) next left e = absurd (no_ok cause next left e)

pub said_shorter : (said next : SaidParts) (b rest : List ℕ) → said_next said b ≡ Ok (next, rest) → length rest < length b
unfolding said_next
said_shorter said next b rest e =
    let k = after_split (field_of b) (λ field left. then_rest left (with_field field said)) next rest e in
    omega (arith, field_shorter b k.0 k.1 k.2, ap length (then_split k.1 (with_field k.0 said) next rest k.3))

or_at_same : (message b : List ℕ) (r : Front SaidParts) (f g : SaidParts → List ℕ → Result SaidParts UnixFsError) → ((said : SaidParts) (rest : List ℕ) → r ≡ Ok (said, rest) → f said rest ≡ g said rest) → or_at message b r f ≡ or_at message b r g
or_at_same message b (Ok (said, rest)) f g same = same said rest refl
or_at_same message b (Err cause) f g same = refl

-- more steps than bytes change nothing
pub said_enough : (message : List ℕ) (m n : ℕ) (said : SaidParts) (b : List ℕ) → length b ≤ m → length b ≤ n → said_from message m said b ≡ said_from message n said b
unfolding said_from
said_enough message m n said [] h k = refl
said_enough message zero n said (x ∷ b) h k = absurd (omega (arith, h))
said_enough message (suc m) zero said (x ∷ b) h k = absurd (omega (arith, k))
said_enough message (suc m) (suc n) said (x ∷ b) h k =
    or_at_same message (x ∷ b) (said_next said (x ∷ b)) (said_from message m) (said_from message n)
    (λ next rest e. let s = said_shorter said next (x ∷ b) rest e in said_enough message m n next rest (omega (arith, s, h)) (omega (arith, s, k)))

-- the values of the fields before the rest
pub record IsReadTo (message : List ℕ) (said : SaidParts) (rest : List ℕ) : Type 0 where
  pub same : said_of message ≡ said_from message (length rest) said rest
  pub within : length rest ≤ length message

pub none_read : (message : List ℕ) → IsReadTo message nothing_said message
unfolding said_of
none_read message = record { same = refl; within = omega arith }

pub one_read : (message : List ℕ) (said next : SaidParts) (b rest : List ℕ) → IsReadTo message said b → b ≢ [] → said_next said b ≡ Ok (next, rest) → IsReadTo message next rest
unfolding said_from
one_read message said next [] rest r there e = absurd (there refl)
one_read message said next (x ∷ b) rest r there e =
    let s = said_shorter said next (x ∷ b) rest e in
    let within = r.within in
    record {
      same = r.same ∙ ap (λ q. or_at message (x ∷ b) q (said_from message (length b))) e
          ∙ said_enough message (length b) (length rest) next rest (omega (arith, s)) (omega arith);
      within = omega (arith, s, within);
    }

pub empty_there : (b : List ℕ) (t : Bool) → t ≡ nat_eq (length b) 0 → t ≡ true → b ≡ []
empty_there b t is h = by b (eqb-true (length b) 0 (sym is ∙ h))
  where
    by : (b : List ℕ) → length b ≡ 0 → b ≡ []
    by [] e = refl
    by (x ∷ b) e = absurd (omega (arith, e))

pub all_read : (message : List ℕ) (said : SaidParts) (b : List ℕ) → IsReadTo message said b → b ≡ [] → said_of message ≡ Ok said
unfolding said_from
all_read message said [] r e = r.same
all_read message said (x ∷ b) r e = absurd (cc e)

pub not_read : (message : List ℕ) (said : SaidParts) (b : List ℕ) (cause : UnixFsCause) → IsReadTo message said b → b ≢ [] → said_next said b ≡ Err cause → said_of message ≡ Err (record { cause = cause; place = length message - length b })
unfolding said_from
not_read message said [] cause r there e = absurd (there refl)
not_read message said (x ∷ b) cause r there e = r.same ∙ ap (λ q. or_at message (x ∷ b) q (said_from message (length b))) e

-- ---- picking from fields

pub no_field : field_of [] ≡ Err Truncated
unfolding field_of varint_of groups_of
no_field = refl

found_same : {A : Type 0} (pick : ℕ × Value → List A) (r : Front (ℕ × Value)) (f g : List ℕ → List A) → ((field : ℕ × Value) (rest : List ℕ) → r ≡ Ok (field, rest) → f rest ≡ g rest) → found_with pick r f ≡ found_with pick r g
found_same pick (Ok (field, rest)) f g same = ap (λ more. pick field ++ more) (same field rest refl)
found_same pick (Err cause) f g same = refl

pub found_enough : {A : Type 0} (pick : ℕ × Value → List A) (m n : ℕ) (b : List ℕ) → length b ≤ m → length b ≤ n → found_from pick m b ≡ found_from pick n b
unfolding found_from
found_enough pick zero zero b h k = refl
found_enough pick zero (suc n) [] h k = sym (ap (λ r. found_with pick r (found_from pick n)) no_field)
found_enough pick zero (suc n) (x ∷ b) h k = absurd (omega (arith, h))
found_enough pick (suc m) zero [] h k = ap (λ r. found_with pick r (found_from pick m)) no_field
found_enough pick (suc m) zero (x ∷ b) h k = absurd (omega (arith, k))
found_enough pick (suc m) (suc n) b h k =
    found_same pick (field_of b) (found_from pick m) (found_from pick n)
    (λ field rest e. let s = field_shorter b field rest e in found_enough pick m n rest (omega (arith, s, h)) (omega (arith, s, k)))

pub found_first : {A : Type 0} (pick : ℕ × Value → List A) (b : List ℕ) (field : ℕ × Value) (rest : List ℕ) → field_of b ≡ Ok (field, rest) → found_in pick b ≡ pick field ++ found_in pick rest
unfolding found_in found_from
found_first pick [] field rest e = absurd (no_ok Truncated field rest (sym no_field ∙ e))
found_first pick (x ∷ b) field rest e =
    let s = field_shorter (x ∷ b) field rest e in
    ap (λ r. found_with pick r (found_from pick (length b))) e
    ∙ ap (λ more. pick field ++ more) (found_enough pick (length b) (length rest) rest (omega (arith, s)) (omega arith))

pub none_found : {A : Type 0} (pick : ℕ × Value → List A) (b : List ℕ) (cause : UnixFsCause) → field_of b ≡ Err cause → found_in pick b ≡ []
unfolding found_in found_from
none_found pick [] cause e = refl
none_found pick (x ∷ b) cause e = ap (λ r. found_with pick r (found_from pick (length b))) e

-- ---- a walk over fields: the rest gives the same as all fields

pub record HasSame {A : Type 0} (pick : ℕ × Value → List A) (fields rest : List ℕ) : Type 0 where
  pub same : found_in pick fields ≡ found_in pick rest
  pub within : length rest ≤ length fields

pub all_fields : {A : Type 0} (pick : ℕ × Value → List A) (fields : List ℕ) → HasSame pick fields fields
all_fields pick fields = record { same = refl; within = omega arith }

pub other_passed : {A : Type 0} (pick : ℕ × Value → List A) (fields b : List ℕ) (field : ℕ × Value) (rest : List ℕ) → HasSame pick fields b → field_of b ≡ Ok (field, rest) → pick field ≡ [] → HasSame pick fields rest
other_passed pick fields b field rest h e none =
    let s = field_shorter b field rest e in
    let within = h.within in
    record {
      same = h.same ∙ found_first pick b field rest e ∙ ap (λ xs. xs ++ found_in pick rest) none;
      within = omega (arith, s, within);
    }

pub one_found : {A : Type 0} (pick : ℕ × Value → List A) (fields b : List ℕ) (field : ℕ × Value) (rest : List ℕ) (a : A) → HasSame pick fields b → field_of b ≡ Ok (field, rest) → pick field ≡ a ∷ [] → found_in pick fields ≡ a ∷ found_in pick rest
one_found pick fields b field rest a h e one = h.same ∙ found_first pick b field rest e ∙ ap (λ xs. xs ++ found_in pick rest) one

pub no_more : {A : Type 0} (pick : ℕ × Value → List A) (fields b : List ℕ) (cause : UnixFsCause) → HasSame pick fields b → field_of b ≡ Err cause → found_in pick fields ≡ []
no_more pick fields b cause h e = h.same ∙ none_found pick b cause e
