-- Keys of joined lists of entries.
use Rattle.std.proofs.Common.{◌≡◌, ℕ, List, [], ◌∷◌, ◌++◌, refl, sym, ap, ◌∙◌, arith, get_or, length, suc, ◌-◌, ◌<◌}
use Rattle.std.specs.declared.cmp.Ordering.TheVariants.{Less}
use Rattle.std.specs.Ordering.{nat_cmp}
use Rattle.std.specs.Cmp.Lexicographic.{slice_cmp}
use Rattle.atproto_mst.specs.Keys.{Entry, IsKey, HaveKeys, ComesBefore, Rise}
use Rattle.atproto_mst.specs.Entries.{entries}
use Rattle.atproto_mst.specs.Stops.{last_entry_key, ComeAfter}
use Rattle.atproto_mst.specs.declared.entries.MstEntry.{MstEntry}

pub keys_left : (es fs : List Entry) → HaveKeys (es ++ fs) → HaveKeys es
keys_left [] fs h = tt
keys_left (e ∷ es) fs h = (h.0, keys_left es fs h.1)

pub keys_right : (es fs : List Entry) → HaveKeys (es ++ fs) → HaveKeys fs
keys_right [] fs h = h
keys_right (e ∷ es) fs h = keys_right es fs h.1

pub before_left : (key : List ℕ) (es fs : List Entry) → ComesBefore key (es ++ fs) → ComesBefore key es
before_left key [] fs h = tt
before_left key (e ∷ es) fs h = h

pub rise_left : (es fs : List Entry) → Rise (es ++ fs) → Rise es
rise_left [] fs h = tt
rise_left (e ∷ es) fs h = (before_left e.0 es fs h.0, rise_left es fs h.1)

pub rise_right : (es fs : List Entry) → Rise (es ++ fs) → Rise fs
rise_right [] fs h = h
rise_right (e ∷ es) fs h = rise_right es fs h.1

pub before_right : (key : List ℕ) (es fs : List Entry) → ComesBefore key (es ++ fs) → Rise (es ++ fs) → ComesBefore (last_entry_key key es) fs
before_right key [] fs h r = h
before_right key (e ∷ es) fs h r = before_right e.0 es fs r.0 r.1

pub after_left : (before : List ℕ) (es fs : List Entry) → ComeAfter before (es ++ fs) → ComeAfter before es
after_left before es fs h = record {
  keys = keys_left es fs h.keys;
  rise = rise_left es fs h.rise;
  following = before_left before es fs h.following;
}

pub after_right : (before : List ℕ) (es fs : List Entry) → ComeAfter before (es ++ fs) → ComeAfter (last_entry_key before es) fs
after_right before es fs h = record {
  keys = keys_right es fs h.keys;
  rise = rise_right es fs h.rise;
  following = before_right before es fs h.following h.rise;
}

pub after_first : (before : List ℕ) (e : Entry) (es : List Entry) → ComeAfter before (e ∷ es) → ComeAfter e.0 es
after_first before e es h = record { keys = h.keys.1; rise = h.rise.1; following = h.rise.0 }

pub first_after : (before : List ℕ) (e : Entry) (es : List Entry) → IsKey e.0 → slice_cmp nat_cmp before e.0 ≡ Less → ComeAfter e.0 es → ComeAfter before (e ∷ es)
first_after before e es k b h = record { keys = (k, h.keys); rise = (h.following, h.rise); following = b }

pub joined_after : (before : List ℕ) (es fs : List Entry) → ComeAfter before es → ComeAfter (last_entry_key before es) fs → ComeAfter before (es ++ fs)
joined_after before [] fs h k = k
joined_after before (e ∷ es) fs h k = first_after before e (es ++ fs) h.keys.0 h.following (joined_after e.0 es fs (after_first before e es h) k)

-- the empty list of bytes comes before each key
none_before : (es : List Entry) → HaveKeys es → ComesBefore [] es
none_before [] h = tt
none_before (([], value) ∷ es) h = absurd (omega (arith, h.0.0))
none_before ((b ∷ key, value) ∷ es) h = refl

pub all_after : (es : List Entry) → HaveKeys es → Rise es → ComeAfter [] es
all_after es k r = record { keys = k; rise = r; following = none_before es k }

pub last_joined : (key : List ℕ) (es fs : List Entry) → last_entry_key key (es ++ fs) ≡ last_entry_key (last_entry_key key es) fs
last_joined key [] fs = refl
last_joined key (e ∷ es) fs = last_joined e.0 es fs

-- the last of the entries in memory
pub last_of : (key : List ℕ) (es : List MstEntry) (d : MstEntry) → 0 < length es → last_entry_key key (entries es) ≡ (get_or es (length es - 1) d).key.items
last_of key [] d h = absurd (omega arith)
last_of key (e ∷ []) d h = refl
last_of key (e ∷ (f ∷ es)) d h =
    let back : suc (suc (length es)) - 1 ≡ suc (suc (length es) - 1) = omega arith in
    last_of e.key.items (f ∷ es) d (omega arith) ∙ ap (λ i. (get_or (e ∷ (f ∷ es)) i d).key.items) (sym back)
