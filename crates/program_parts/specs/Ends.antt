-- What programs say of a path that does not end at an item.
use Rattle.std.specs.Prelude.{◌≡◌, ℕ, List, [], ◌∷◌, ◌++◌, codes, Bool, false, ⊤}
use Rattle.ipld_tree.specs.Cid.{CidParts}
use Rattle.text_cid.specs.Texts.{cid_text}
use Rattle.ipld_links.specs.Reaching.{Stored}
use Rattle.ipld_paths.specs.Resolving.{Resolves}
use Rattle.ipld_paths.specs.declared.resolution.End.{End}
use Rattle.ipld_paths.specs.declared.resolution.End.TheVariants as ends
use Rattle.ipld_paths.specs.declared.resolution.Resolved.{Resolved}
use Rattle.program_parts.specs.Lines.{line, missing_line, verdict_text}

-- the line that says why a path does not end at an item, in this block
abbrev pub end_line : CidParts → End → List ℕ
end_line name (ends.Item kind place end) = []
end_line name (ends.NoSuchPath left) = line (cid_text name ++ (codes " has nothing at " ++ left.now))
end_line name ends.NotHeld = missing_line name
end_line name (ends.NoBlock verdict) = line (cid_text name ++ (32 ∷ verdict_text verdict))
end_line name ends.NoModel = line (cid_text name ++ codes " refused NameNotText")
end_line name ends.Endless = line (cid_text name ++ codes " leads on")

-- a path does not end at an item
abbrev pub IsNoItem : End → Type 0
IsNoItem (ends.Item kind place end) = ⊥
IsNoItem _ = ⊤

-- The path does not end at an item, and a line says why.
abbrev pub IsToldAt : Stored → CidParts → List (List ℕ) → Bool → List ℕ → List ℕ → Type 0
IsToldAt stored root path well out told = (r : Resolved) × Resolves stored root path r × IsNoItem r.end
    × (well ≡ false) × (out ≡ []) × (told ≡ end_line r.block r.end)
