-- The block found for a CID is the same, however it was found.
use Rattle.std.proofs.Common.{◌≡◌, inl, inr, List, [], ℕ, true, false}
use Rattle.ipld_tree.specs.Cid.{CidParts}
use Rattle.ipld_links.specs.Verdicts.{IsVerified}
use Rattle.ipld_paths.proofs.Binding.{one_named}
use Rattle.program_dagcar.specs.Finding.{IsGot}
use Rattle.program_dagcar_files.specs.Gets.{IsGotNamed, IndexGivesTheBlock}

got_verified : (name : CidParts) (b block told : List ℕ) → IsGot name b true block told → IsVerified (name, block)
got_verified name b block told h = elim h [
  | inl p ↦ p.6
  | inr p ↦ let clash : true ≡ false = p.0 in cc clash
]

named_verified : (name : CidParts) (b block told : List ℕ) → IsGotNamed name b true block told → IsVerified (name, block)
named_verified name b block told h = elim h [
  | inl p ↦ got_verified name b block told p.1
  | inr p ↦ elim p.1 [
    | inl found ↦ found.2
    | inr past ↦ elim past.1 [
      | inl q ↦ got_verified name b block [] q.2
      | inr q ↦ let clash : true ≡ false = q.0 in cc clash
    ]
  ]
]

pub same_block : IndexGivesTheBlock
same_block name b other block plain told h k =
    one_named name block plain (named_verified name b block told h) (got_verified name other plain [] k)
