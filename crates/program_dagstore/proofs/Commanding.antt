-- What the arguments of the program mean.
use Rattle.std.proofs.Common.{◌≡◌, ◌≢◌, inl, inr, ℕ, ◌+◌, ◌<◌, ◌≤◌, ◌^◌, List, [], ◌∷◌, ◌++◌, length, take, drop, codes, map, arith, refl, sym, ap, ap₂, ◌∙◌, subst, get_or, Option, MatchOption, Result, Ok, Err, false, cond, ◌==◌, slice_index}
use Rattle.std.specs.Result.{result_ok}
use Rattle.std.proofs.lemmas.List.{map_more, drop_more, take-append-drop, take-map, drop-map}
use Rattle.std.specs.Str.Parse.{IsNumeral, AllDigits, ParsesUnsigned, digits_value, without_leading_plus}
use Rattle.std.proofs.lemmas.Int.Digits.{digits_value-lt}
use Rattle.std.proofs.Math.Nat.{pow-le-pow_right, lt_of_lt_of_le}
use Rattle.ipld_tree.specs.Cid.{CidParts}
use Rattle.text_cid.specs.Texts.{IsTextOf, IsTextFault, TextsTellCids, TextFaultsAreUnique}
use Rattle.text_cid.specs.declared.error.CidTextError.{CidTextError}
use Rattle.program_dagstore.specs.Commands.{NamesCodec, AreTextsOf, IsFirstFault, WantsNames, command_word, NamesCommand, IsCodec, AreKnown}
use Rattle.program_dagstore.specs.declared.command.Command.{Command}
use Rattle.program_dagstore.specs.declared.command.Command.TheVariants as commands
use Rattle.program_dagstore.specs.declared.command.Words.{Words}
use Rattle.program_dagstore.specs.declared.command.Words.TheVariants as words

-- ---- rows of CIDs

-- words are texts of at most one list of CIDs
same_names : TextsTellCids → (texts : List (List ℕ)) (names others : List CidParts) → AreTextsOf texts names → AreTextsOf texts others → names ≡ others
same_names law [] [] [] h k = refl
same_names law [] [] (d ∷ others) h k = absurd k
same_names law [] (c ∷ names) others h k = absurd h
same_names law (t ∷ texts) [] others h k = absurd h
same_names law (t ∷ texts) (c ∷ names) [] h k = absurd k
same_names law (t ∷ texts) (c ∷ names) (d ∷ others) h k = ap₂ (λ x xs. x ∷ xs) (law t c d h.0 k.0) (same_names law texts names others h.1 k.1)

-- if all are texts of CIDs, there is no fault
no_fault : TextFaultsAreUnique → (texts : List (List ℕ)) (names : List CidParts) (e : CidTextError) → AreTextsOf texts names → IsFirstFault texts e → ⊥
no_fault law [] names e h f = f
no_fault law (t ∷ texts) [] e h f = h
no_fault law (t ∷ texts) (c ∷ names) e h (inl f) = (law t e f).0 c h.0
no_fault law (t ∷ texts) (c ∷ names) e h (inr f) = no_fault law texts names e h.1 f.1

pub texts_push : (texts : List (List ℕ)) (text : List ℕ) (names : List CidParts) (name : CidParts) → AreTextsOf texts names → IsTextOf text name → AreTextsOf (texts ++ text ∷ []) (names ++ name ∷ [])
texts_push [] text [] name h is = (is, tt)
texts_push [] text (c ∷ names) name h is = absurd h
texts_push (t ∷ texts) text [] name h is = absurd h
texts_push (t ∷ texts) text (c ∷ names) name h is = (h.0, texts_push texts text names name h.1 is)

pub fault_after : (texts : List (List ℕ)) (text : List ℕ) (more : List (List ℕ)) (names : List CidParts) (e : CidTextError) → AreTextsOf texts names → IsTextFault e text → IsFirstFault (texts ++ (text ∷ more)) e
fault_after [] text more names e h is = inl is
fault_after (t ∷ texts) text more [] e h is = absurd h
fault_after (t ∷ texts) text more (c ∷ names) e h is = inr ((c, h.0), fault_after texts text more names e h.1 is)

-- ---- words tell themselves apart

-- a number for each word of the program, different for each
abbrev mark : List ℕ → ℕ
mark word = get_or word 0 0 + (get_or word 1 0 + get_or word 1 0)

-- n is that of `put`, and k is not
apart : (n k : ℕ) → n ≡ 346 → n ≡ k → k ≢ 346 → ⊥
apart n k m e other = other (sym e ∙ m)

no_command : (word : List ℕ) → mark word ≡ 346 → (c : Command) → word ≡ command_word c → ⊥
no_command word m (commands.Export roots) e = apart (mark word) 341 m (ap mark e) (λ d. omega (arith, d))
no_command word m (commands.Get name) e = apart (mark word) 305 m (ap mark e) (λ d. omega (arith, d))
no_command word m (commands.Has name) e = apart (mark word) 298 m (ap mark e) (λ d. omega (arith, d))
no_command word m (commands.Remove names) e = apart (mark word) 316 m (ap mark e) (λ d. omega (arith, d))
no_command word m (commands.Collect roots) e = apart (mark word) 301 m (ap mark e) (λ d. omega (arith, d))
no_command word m (commands.Tree root) e = apart (mark word) 344 m (ap mark e) (λ d. omega (arith, d))
no_command word m (commands.AddRoots names) e = apart (mark word) 297 m (ap mark e) (λ d. omega (arith, d))
no_command word m (commands.DropRoots names) e = apart (mark word) 328 m (ap mark e) (λ d. omega (arith, d))
no_command word m commands.Roots e = apart (mark word) 336 m (ap mark e) (λ d. omega (arith, d))
no_command word m commands.Check e = apart (mark word) 307 m (ap mark e) (λ d. omega (arith, d))
no_command word m commands.List e = apart (mark word) 318 m (ap mark e) (λ d. omega (arith, d))
no_command word m commands.Count e = apart (mark word) 321 m (ap mark e) (λ d. omega (arith, d))
no_command word m commands.Serve e = apart (mark word) 317 m (ap mark e) (λ d. omega (arith, d))

no_names : (word : List ℕ) → mark word ≡ 346 → WantsNames word → ⊥
no_names word m (inl e) = apart (mark word) 341 m (ap mark e) (λ d. omega (arith, d))
no_names word m (inr (inl e)) = apart (mark word) 305 m (ap mark e) (λ d. omega (arith, d))
no_names word m (inr (inr (inl e))) = apart (mark word) 298 m (ap mark e) (λ d. omega (arith, d))
no_names word m (inr (inr (inr (inl e)))) = apart (mark word) 344 m (ap mark e) (λ d. omega (arith, d))
no_names word m (inr (inr (inr (inr (inl e))))) = apart (mark word) 316 m (ap mark e) (λ d. omega (arith, d))
no_names word m (inr (inr (inr (inr (inr (inl e)))))) = apart (mark word) 301 m (ap mark e) (λ d. omega (arith, d))
no_names word m (inr (inr (inr (inr (inr (inr (inl e))))))) = apart (mark word) 297 m (ap mark e) (λ d. omega (arith, d))
no_names word m (inr (inr (inr (inr (inr (inr (inr e))))))) = apart (mark word) 328 m (ap mark e) (λ d. omega (arith, d))

-- ---- which words are unknown

-- a word after `put` that does not name a codec
no_codec : (word : List ℕ) → ((codec : ℕ) → NamesCodec word codec → ⊥) → (codec : ℕ) → IsCodec (word ∷ []) codec → ⊥
no_codec word none codec (inl h) = let clash : 1 ≡ 0 = ap length h.0 in omega (arith, clash)
no_codec word none codec (inr h) = none codec (subst (λ w. NamesCodec w codec) (sym (ap (λ ws. get_or ws 0 []) h.1)) h.2)

pub no_put : (path word : List ℕ) (rest : List (List ℕ)) → rest ≡ word ∷ [] → ((codec : ℕ) → NamesCodec word codec → ⊥) → (it : Words) → AreKnown (path ∷ (codes "put" ∷ rest)) it → ⊥
no_put path word rest is none (words.Import file source) h = let clash : 346 ≡ 323 = ap mark h.1 in omega (arith, clash)
no_put path word rest is none (words.At file asking inner) h = let clash : 346 ≡ 329 = ap mark h.1 in omega (arith, clash)
no_put path word rest is none (words.Cat file at inner) h = let clash : 346 ≡ 293 = ap mark h.1 in omega (arith, clash)
no_put path word rest is none (words.Ls file at inner) h = let clash : 346 ≡ 338 = ap mark h.1 in omega (arith, clash)
no_put path word rest is none (words.Put file codec) h = no_codec word none codec (subst (λ ws. IsCodec ws codec) is h.2)
no_put path word rest is none (words.Do file command) h = no_command (codes "put") refl command h.1.2.0
no_put path word rest is none words.Help h = h
no_put path word rest is none words.Version h = h
no_put path word rest is none (words.NoCid e) (inl h) = no_names (codes "put") refl h.0
no_put path word rest is none (words.NoCid e) (inr (inl h)) = let clash : 346 ≡ 329 = ap mark h.0 in omega (arith, clash)
no_put path word rest is none (words.NoCid e) (inr (inr (inl h, k))) = let clash : 346 ≡ 293 = ap mark h in omega (arith, clash)
no_put path word rest is none (words.NoCid e) (inr (inr (inr h, k))) = let clash : 346 ≡ 338 = ap mark h in omega (arith, clash)
no_put path word rest is none words.Unknown h = h

-- CIDs after a word with which they are not a command
pub no_done : TextsTellCids → TextFaultsAreUnique → (path word : List ℕ) (rest : List (List ℕ)) (names : List CidParts) → word ≢ codes "import" → word ≢ codes "put" → word ≢ codes "at" → word ≢ codes "cat" → word ≢ codes "ls" → AreTextsOf rest names → ((c : Command) → NamesCommand word names c → ⊥)
    → (it : Words) → AreKnown (path ∷ (word ∷ rest)) it → ⊥
no_done law faults path word rest names imports puts ats cats lists texts none (words.Import file source) h = imports h.1
no_done law faults path word rest names imports puts ats cats lists texts none (words.Put file codec) h = puts h.1
no_done law faults path word rest names imports puts ats cats lists texts none (words.Do file command) h = none command (subst (λ ns. NamesCommand word ns command) (same_names law rest h.1.0 names h.1.1 texts) h.1.2)
no_done law faults path word rest names imports puts ats cats lists texts none words.Help h = h
no_done law faults path word rest names imports puts ats cats lists texts none words.Version h = h
no_done law faults path word rest names imports puts ats cats lists texts none (words.At file asking inner) h = ats h.1
no_done law faults path word rest names imports puts ats cats lists texts none (words.Cat file at inner) h = cats h.1
no_done law faults path word rest names imports puts ats cats lists texts none (words.Ls file at inner) h = lists h.1
no_done law faults path word rest names imports puts ats cats lists texts none (words.NoCid e) (inl h) = no_fault faults rest names e texts h.1
no_done law faults path word rest names imports puts ats cats lists texts none (words.NoCid e) (inr (inl h)) = ats h.0
no_done law faults path word rest names imports puts ats cats lists texts none (words.NoCid e) (inr (inr (inl h, k))) = cats h
no_done law faults path word rest names imports puts ats cats lists texts none (words.NoCid e) (inr (inr (inr h, k))) = lists h
no_done law faults path word rest names imports puts ats cats lists texts none words.Unknown h = h

-- other words after a word that takes no CIDs
pub no_word : TextFaultsAreUnique → (path word : List ℕ) (rest : List (List ℕ)) (f : CidTextError) → word ≢ codes "import" → word ≢ codes "put" → word ≢ codes "at" → word ≢ codes "cat" → word ≢ codes "ls" → IsFirstFault rest f → (WantsNames word → ⊥) → (it : Words) → AreKnown (path ∷ (word ∷ rest)) it → ⊥
no_word faults path word rest f imports puts ats cats lists fault none (words.Import file source) h = imports h.1
no_word faults path word rest f imports puts ats cats lists fault none (words.Put file codec) h = puts h.1
no_word faults path word rest f imports puts ats cats lists fault none (words.Do file command) h = no_fault faults rest h.1.0 f h.1.1 fault
no_word faults path word rest f imports puts ats cats lists fault none words.Help h = h
no_word faults path word rest f imports puts ats cats lists fault none words.Version h = h
no_word faults path word rest f imports puts ats cats lists fault none (words.At file asking inner) h = ats h.1
no_word faults path word rest f imports puts ats cats lists fault none (words.Cat file at inner) h = cats h.1
no_word faults path word rest f imports puts ats cats lists fault none (words.Ls file at inner) h = lists h.1
no_word faults path word rest f imports puts ats cats lists fault none (words.NoCid e) (inl h) = none h.0
no_word faults path word rest f imports puts ats cats lists fault none (words.NoCid e) (inr (inl h)) = ats h.0
no_word faults path word rest f imports puts ats cats lists fault none (words.NoCid e) (inr (inr (inl h, k))) = cats h
no_word faults path word rest f imports puts ats cats lists fault none (words.NoCid e) (inr (inr (inr h, k))) = lists h
no_word faults path word rest f imports puts ats cats lists fault none words.Unknown h = h

-- ---- rows of words

-- the CIDs with one more word
pub texts_more : {X : Type 0} (f : X → List ℕ) (xs : List X) (i : ℕ) (x : X) (names : List CidParts) (name : CidParts) → i < length xs → x ≡ get_or xs i x → AreTextsOf (map f (take i xs)) names → IsTextOf (f x) name → AreTextsOf (map f (take (i + 1) xs)) (names ++ name ∷ [])
texts_more f xs i x names name below is h k =
    subst (λ ts. AreTextsOf ts (names ++ name ∷ [])) (sym (map_more f xs i x below ∙ ap (λ y. map f (take i xs) ++ f y ∷ []) (sym is))) (texts_push (map f (take i xs)) (f x) names name h k)

split : {X : Type 0} (f : X → List ℕ) (xs : List X) (i : ℕ) (x : X) → i < length xs → map f xs ≡ map f (take i xs) ++ (f (get_or xs i x) ∷ map f (drop (i + 1) xs))
split f xs i x below = sym (take-append-drop i (map f xs)) ∙ ap₂ (λ a b. a ++ b) (take-map f i xs) (drop-map f i xs ∙ ap (λ ys. map f ys) (drop_more xs i x below))

-- the first word that is not a text of a CID
pub fault_found : {X : Type 0} (f : X → List ℕ) (xs : List X) (i : ℕ) (x : X) (names : List CidParts) (e : CidTextError) → i < length xs → x ≡ get_or xs i x → AreTextsOf (map f (take i xs)) names → IsTextFault e (f x) → IsFirstFault (map f xs) e
fault_found f xs i x names e below is h k = subst (λ ts. IsFirstFault ts e) (sym (split f xs i x below ∙ ap (λ y. map f (take i xs) ++ (f y ∷ map f (drop (i + 1) xs))) (sym is))) (fault_after (map f (take i xs)) (f x) (map f (drop (i + 1) xs)) names e h k)

-- a list of one
pub one_word : {X : Type 0} (f : X → List ℕ) (xs : List X) (x : X) (word : List ℕ) → 1 ≤ length xs → length xs < 2 → x ≡ get_or xs 0 x → word ≡ f x → map f xs ≡ word ∷ []
one_word f [] x word least most is same = absurd (omega (arith, least))
one_word f (y ∷ []) x word least most is same = ap (λ w. w ∷ []) (sym (same ∙ ap f is))
one_word f (y ∷ z ∷ ys) x word least most is same = absurd (omega (arith, most))

-- ---- a number in hexadecimal

plain : (bs : List ℕ) → (slice_index bs 0 == 43) ≡ false → without_leading_plus bs ≡ bs
plain bs h = ap (λ t. drop (cond t 1 0) bs) h

-- 16 digits are below 2 ^ 64
short : (bs : List ℕ) → AllDigits 16 bs → length bs ≤ 16 → digits_value 16 bs < 2 ^ 64
short bs all most = lt_of_lt_of_le (digits_value-lt 16 bs all) (pow-le-pow_right (omega arith) most)

pub numbered : {E : Type 0} (bs : List ℕ) (r : Result ℕ E) (o : Option ℕ) → (slice_index bs 0 == 43) ≡ false → length bs ≤ 16 → ParsesUnsigned 64 16 bs r → o ≡ result_ok r
    → MatchOption o (IsNumeral 16 bs × (length bs ≤ 16) → ⊥) (λ n. IsNumeral 16 bs × (length bs ≤ 16) × (n ≡ digits_value 16 bs))
numbered bs (Ok n) o no_plus most h is =
    let k : (IsNumeral 16 bs × (digits_value 16 bs < 2 ^ 64)) × (n ≡ digits_value 16 bs) = subst (λ x. (IsNumeral 16 x × (digits_value 16 x < 2 ^ 64)) × (n ≡ digits_value 16 x)) (plain bs no_plus) h in
    subst (λ x. MatchOption x (IsNumeral 16 bs × (length bs ≤ 16) → ⊥) (λ m. IsNumeral 16 bs × (length bs ≤ 16) × (m ≡ digits_value 16 bs))) (sym is) (k.0.0, most, k.1)
numbered bs (Err e) o no_plus most h is =
    let k : IsNumeral 16 bs × (digits_value 16 bs < 2 ^ 64) → ⊥ = subst (λ x. IsNumeral 16 x × (digits_value 16 x < 2 ^ 64) → ⊥) (plain bs no_plus) h in
    subst (λ x. MatchOption x (IsNumeral 16 bs × (length bs ≤ 16) → ⊥) (λ m. IsNumeral 16 bs × (length bs ≤ 16) × (m ≡ digits_value 16 bs))) (sym is) (λ d. k (d.0, short bs d.0.1 most))
