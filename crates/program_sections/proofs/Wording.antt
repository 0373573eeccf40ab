-- The words of `filter`.
use Rattle.std.proofs.Common.{◌≡◌, ◌≢◌, ◌⊎◌, inl, inr, ℕ, ◌+◌, ◌==◌, ◌<◌, ◌≤◌, List, [], ◌∷◌, ◌++◌, length, append_assoc, Bool, true, false, if◌then◌else◌, sym, ap, ◌∙◌, subst, Option, None, Some, codes, map, arith, get_or, MatchOption}
use Rattle.std.specs.Str.{bytes_eq}
use Rattle.std.proofs.lemmas.Slice.Eq.{bytes_eq-Decides}
use Rattle.ipld_tree.specs.Cid.{CidParts}
use Rattle.text_cid.specs.Texts.{IsTextOf}
use Rattle.program_parts.specs.Codecs.{codec_name}
use Rattle.program_sections.specs.Words.{IsHexText, IsCodecText, root_texts, after_roots, AreTexts, HasRoot, HasNoRoot, IsBy, IsByAndFile}
use Rattle.program_sections.specs.SplitWords.{IsSizeText, AreSizeAndFiles, HasSizeAndFiles, IsSplit}
use Rattle.program_sections.specs.declared.words.By.{By}
use Rattle.program_sections.specs.declared.words.By.TheVariants.{Codec, Names}

pub texts_push : (done : List (List ℕ)) (cs : List CidParts) (text : List ℕ) (c : CidParts) → AreTexts done cs → IsTextOf text c → AreTexts (done ++ text ∷ []) (cs ++ c ∷ [])
texts_push [] [] text c h is = (is, tt)
texts_push [] (d ∷ cs) text c h is = absurd h
texts_push (t ∷ done) [] text c h is = absurd h
texts_push (t ∷ done) (d ∷ cs) text c h is = (h.0, texts_push done cs text c h.1 is)

texts_none : (done : List (List ℕ)) (text : List ℕ) (more : List (List ℕ)) (cs : List CidParts) → ((c : CidParts) → IsTextOf text c → ⊥) → AreTexts (done ++ text ∷ more) cs → ⊥
texts_none [] text more [] none h = h
texts_none [] text more (c ∷ cs) none h = none c h.0
texts_none (t ∷ done) text more [] none h = h
texts_none (t ∷ done) text more (c ∷ cs) none h = texts_none done text more cs none h.1

-- how far the words were split
pub record Split (words rest : List (List ℕ)) (cs : List CidParts) : Type 0 where
  pub done : List (List ℕ)
  pub texts : root_texts words ≡ done ++ root_texts rest
  pub following : after_roots words ≡ after_roots rest
  pub are : AreTexts done cs

pub split_more : (words rest next : List (List ℕ)) (cs : List CidParts) (c : CidParts) → Split words rest cs → HasRoot rest (Some c) next → Split words next (cs ++ c ∷ [])
split_more words rest next cs c h k = record {
  done = h.done ++ k.0 ∷ [];
  texts = h.texts ∙ ap (λ l. h.done ++ root_texts l) k.1 ∙ sym (append_assoc h.done (k.0 ∷ []) (root_texts next));
  following = h.following ∙ ap after_roots k.1;
  are = texts_push h.done cs k.0 c h.are k.2;
}

pub split_wrong : (words rest next : List (List ℕ)) (cs : List CidParts) → Split words rest cs → HasRoot rest None next → (roots : List CidParts) → AreTexts (root_texts words) roots → ⊥
split_wrong words rest next cs h k roots are = texts_none h.done k.0 (root_texts next) roots k.2 (subst (λ l. AreTexts l roots) (h.texts ∙ ap (λ l. h.done ++ root_texts l) k.1) are)

pub is_word : (name word : List ℕ) (t : Bool) → t ≡ bytes_eq word name → t ≡ true → word ≡ name
is_word name word t e h = (bytes_eq-Decides word name).0 (sym e ∙ h)

-- ---- roots

pub no_root_word : (words : List (List ℕ)) → ((rest : List (List ℕ)) → words ≢ codes "--root" ∷ rest) → HasNoRoot words
no_root_word words other text rest e = other (text ∷ rest) e

pub no_root_text : (words rest : List (List ℕ)) → words ≡ codes "--root" ∷ rest → rest ≡ [] → HasNoRoot words
no_root_text words rest e none text more h = let n : length (codes "--root" ∷ rest) ≡ length (codes "--root" ∷ text ∷ more) = ap length (sym e ∙ h) in let z : length rest ≡ 0 = ap length none in omega (arith, n, z)

-- ---- what to keep

pick : (b : Bool) (x y : Option (List ℕ)) (text : List ℕ) → (if b then x else y) ≡ Some text → (x ≡ Some text) ⊎ (y ≡ Some text)
pick true x y text e = inl e
pick false x y text e = inr e

same_text : (name text : List ℕ) → Some name ≡ Some text → text ≡ name
same_text name text e = let same : name ≡ text = cc e in sym same

-- the names after the first ones
abbrev after_5 : ℕ → Option (List ℕ)
after_5 n = if n == 0x0200 then Some (codes "json") else None

abbrev after_4 : ℕ → Option (List ℕ)
after_4 n = if n == 0x0129 then Some (codes "dag-json") else after_5 n

abbrev after_3 : ℕ → Option (List ℕ)
after_3 n = if n == 0x72 then Some (codes "libp2p-key") else after_4 n

abbrev after_2 : ℕ → Option (List ℕ)
after_2 n = if n == 0x71 then Some (codes "dag-cbor") else after_3 n

abbrev after_1 : ℕ → Option (List ℕ)
after_1 n = if n == 0x70 then Some (codes "dag-pb") else after_2 n

no_name : (text : List ℕ) (n : ℕ) → text ≢ codes "raw" → text ≢ codes "dag-pb" → text ≢ codes "dag-cbor" → text ≢ codes "libp2p-key" → text ≢ codes "dag-json" → text ≢ codes "json" → codec_name n ≡ Some text → ⊥
no_name text n a b c d e f k = elim (pick (n == 0x55) (Some (codes "raw")) (after_1 n) text k) [
  | inl x ↦ a (same_text (codes "raw") text x)
  | inr k1 ↦ elim (pick (n == 0x70) (Some (codes "dag-pb")) (after_2 n) text k1) [
    | inl x ↦ b (same_text (codes "dag-pb") text x)
    | inr k2 ↦ elim (pick (n == 0x71) (Some (codes "dag-cbor")) (after_3 n) text k2) [
      | inl x ↦ c (same_text (codes "dag-cbor") text x)
      | inr k3 ↦ elim (pick (n == 0x72) (Some (codes "libp2p-key")) (after_4 n) text k3) [
        | inl x ↦ d (same_text (codes "libp2p-key") text x)
        | inr k4 ↦ elim (pick (n == 0x0129) (Some (codes "dag-json")) (after_5 n) text k4) [
          | inl x ↦ e (same_text (codes "dag-json") text x)
          | inr k5 ↦ elim (pick (n == 0x0200) (Some (codes "json")) None text k5) [
            | inl x ↦ f (same_text (codes "json") text x)
            | inr x ↦ absurd (let clash : None ≡ Some text = x in cc clash)
          ]
        ]
      ]
    ]
  ]
]

pub no_codec_name : (text : List ℕ) (o : Option ℕ) → text ≢ codes "raw" → text ≢ codes "dag-pb" → text ≢ codes "dag-cbor" → text ≢ codes "libp2p-key" → text ≢ codes "dag-json" → text ≢ codes "json" → MatchOption o ((n : ℕ) → IsHexText text n → ⊥) (IsHexText text) → MatchOption o ((n : ℕ) → IsCodecText text n → ⊥) (IsCodecText text)
no_codec_name text (Some n) a b c d e f h = inr h
no_codec_name text None a b c d e f h = λ n k. elim k [ inl x ↦ no_name text n a b c d e f x | inr x ↦ h n x ]

pub no_codec : (option text : List ℕ) → option ≡ codes "--codec" → ((n : ℕ) → IsCodecText text n → ⊥) → (by : By) → IsBy option text by → ⊥
no_codec option text is none (Codec n) k = none n k.1
no_codec option text is none (Names list) k = let third : get_or (codes "--codec") 2 0 ≡ get_or (codes "--names") 2 0 = ap (λ (w : List ℕ). get_or w 2 0) (sym is ∙ k.0) in omega (arith, third)

pub none_alone : (option text : List ℕ) → ((by : By) → IsBy option text by → ⊥) → (by : By) (file : Option (List ℕ)) → IsByAndFile (option ∷ text ∷ []) by file → ⊥
none_alone option text none by None k = none by k
none_alone option text none by (Some file) k = k

pub none_with_file : (option text file : List ℕ) → ((by : By) → IsBy option text by → ⊥) → (by : By) (it : Option (List ℕ)) → IsByAndFile (option ∷ text ∷ file ∷ []) by it → ⊥
none_with_file option text file none by None k = k
none_with_file option text file none by (Some it) k = none by k.0

-- ---- the size of a part

pub none_sized : (text it start : List ℕ) → ((n : ℕ) → IsSizeText text n → ⊥) → (size : ℕ) (file prefix : List ℕ) → AreSizeAndFiles (text ∷ it ∷ start ∷ []) size file prefix → ⊥
none_sized text it start none size file prefix h = none size h.0

pub three_words : {X : Type 0} (f : X → List ℕ) (xs : List X) (a b d : X) (u v w : List ℕ) → 3 ≤ length xs → length xs < 4 → a ≡ get_or xs 0 a → b ≡ get_or xs 1 b → d ≡ get_or xs 2 d → u ≡ f a → v ≡ f b → w ≡ f d → map f xs ≡ u ∷ v ∷ w ∷ []
three_words f [] a b d u v w least most p q r i j k = absurd (omega (arith, least))
three_words f (x ∷ []) a b d u v w least most p q r i j k = absurd (omega (arith, least))
three_words f (x ∷ y ∷ []) a b d u v w least most p q r i j k = absurd (omega (arith, least))
three_words f (x ∷ y ∷ z ∷ []) a b d u v w least most p q r i j k =
    ap (λ l. l ∷ f y ∷ f z ∷ []) (sym (i ∙ ap f p)) ∙ ap (λ l. u ∷ l ∷ f z ∷ []) (sym (j ∙ ap f q)) ∙ ap (λ l. u ∷ v ∷ l ∷ []) (sym (k ∙ ap f r))
three_words f (x ∷ y ∷ z ∷ t ∷ xs) a b d u v w least most p q r i j k = absurd (omega (arith, most))

pub no_split : (words following rest : List (List ℕ)) → words ≡ codes "split" ∷ following → rest ≡ after_roots following → ((size : ℕ) (file prefix : List ℕ) → HasSizeAndFiles rest size file prefix → ⊥) → (roots : List CidParts) (size : ℕ) (file prefix : List ℕ) → IsSplit words roots size file prefix → ⊥
no_split words following rest is same none roots size file prefix h =
    let e : codes "split" ∷ h.0 ≡ codes "split" ∷ following = sym h.1 ∙ is in
    let tail : h.0 ≡ following = cc e in
    none size file prefix (subst (λ w. HasSizeAndFiles w size file prefix) (ap after_roots tail ∙ sym same) h.3)
