use Rattle.std.proofs.Common.{inl, inr, refl, sym, ◌∙◌, ℕ, option_map, Vec, Global}
use Rattle.std.proofs.lemmas.Result.{err_from_is_err_and}
use Rattle.ipld_links.specs.Reaching.{Stored}
use Rattle.files_unix_fs.specs.declared.entity.Entity.TheVariants.{Directory}
use Rattle.program_parts.specs.Lines.{IsSaidOfEach}
use Rattle.program_parts.specs.Entries.{IsEntityAt, IsEntry, IsListed, IsListingUnder}
use Rattle.program_parts.proofs.Listing.{directory_node, node_row, entries_listed}
use Rattle.store_on_disk.proofs.Adding.{quiet_itself}
use Rattle.store_on_disk.proofs.Walking.{same_itself}
use Rattle.program_dagstore.specs.Directories.{IsLinked, IsOfEntries}
use Rattle.program_dagstore.specs.declared.fault.Fault.TheVariants as fault
use Rattle.program_dagstore.proofs.Contents.{got_one, got_on, got_stored_so, fails_at, fails_then}
use Rattle.program_dagstore.proofs.directory.listing_under.Goals as goal

pub entries_got-requires : goal.entries_got-requires
entries_got-requires g c =
    let all : Stored = λ n. option_map (λ (v : Vec ℕ Global). v.items) c.in_ok-got.got in
    let block = c.in-Ok-Entries.block.now in
    let listed : IsListed all c.args.cid.now c.in-Ok-Entries.field-0 = c.in-Ok-Entries.ensures all (sym c.bytes_got.ensures) in
    node_row block (directory_node all c.args.cid.now block (rw c.in-Ok-Entries.field-0-is at listed))

pub returns-in-Ok-Whole-clause-says : goal.returns-in-Ok-Whole-clause-says
returns-in-Ok-Whole-clause-says g c =
    let cid = c.args.cid.now in
    let answer = c.in-Ok-Whole.answer in
    got_one (g.S.Store.view c.args.store.now) (g.S.Store.view c.get_block.new.self) cid c.in_ok-got.got (λ stored. IsListingUnder stored cid answer.0.1 answer.0.0.items answer.1.items)
    c.in_ok-got.ensures.verified c.in_ok-got.ensures.found
    (λ stored e.
    let listed : IsListed stored cid c.in-Ok-Whole.field-0 = c.in-Ok-Whole.ensures stored (e ∙ sym c.bytes_got.ensures) in
    rw c.in-Ok-Whole.field-0-is at listed)

pub returns-in-Ok-Entries-clause-says : goal.returns-in-Ok-Entries-clause-says
returns-in-Ok-Entries-clause-says g c =
    let cid = c.args.cid.now in
    let block = c.in-Ok-Entries.block.now in
    let all : Stored = λ n. option_map (λ (v : Vec ℕ Global). v.items) c.in_ok-got.got in
    let here : IsListed all cid c.in-Ok-Entries.field-0 = c.in-Ok-Entries.ensures all (sym c.bytes_got.ensures) in
    let node = directory_node all cid block (rw c.in-Ok-Entries.field-0-is at here) in
    let said = c.in_ok-said-in-Ok-Entries.said in
    got_on g.S.Store c.args.store.now c.get_block.new.self c.entries_got.new.store (λ stored. IsEntityAt stored cid block Directory) (λ stored. IsSaidOfEach (IsEntry stored) node.0.links said.1 said.0.items) (λ stored. IsListingUnder stored cid said.1 said.0.items c.new.result.items)
    c.in_ok-got.ensures.reads.same c.entries_got.ensures.reads.quiet
    (got_one (g.S.Store.view c.args.store.now) (g.S.Store.view c.get_block.new.self) cid c.in_ok-got.got (λ stored. IsEntityAt stored cid block Directory)
    c.in_ok-got.ensures.verified c.in_ok-got.ensures.found
    (λ stored e.
    let listed : IsListed stored cid c.in-Ok-Entries.field-0 = c.in-Ok-Entries.ensures stored (e ∙ sym c.bytes_got.ensures) in
    rw c.in-Ok-Entries.field-0-is at listed))
    (c.in_ok-said-in-Ok-Entries.ensures.says node.0 node.1)
    (λ stored is lines. entries_listed stored cid block node.0 said.1 said.0.items c.new.result.items is node.1 lines c.new.ensures.items)

pub returns-in_err-got-clause-fault : goal.returns-in_err-got-clause-fault
returns-in_err-got-clause-fault g c =
    let p = err_from_is_err_and c.from_residual.result c.from_residual.ensures.1 in
    let cid = c.args.cid.now in
    let store = c.args.store.now in
    rw (p.1, p.2) (fails_at g.S.Store store store c.get_block.new.self cid (IsOfEntries cid) (fault.Store c.in_err-got.field-0.0)
    (quiet_itself g.S.Store store) (λ clean. same_itself (g.S.Store.view store)) c.get_block.ensures.reads.quiet (λ clean stored shows. inl refl) c.in_err-got.ensures.refused)

pub returns-in_err-said-in-Ok-Entries-clause-fault : goal.returns-in_err-said-in-Ok-Entries-clause-fault
returns-in_err-said-in-Ok-Entries-clause-fault g c =
    let p = err_from_is_err_and c.from_residual-in_err-said-in-Ok-Entries.result c.from_residual-in_err-said-in-Ok-Entries.ensures.1 in
    let cid = c.args.cid.now in
    let block = c.in-Ok-Entries.block.now in
    let all : Stored = λ n. option_map (λ (v : Vec ℕ Global). v.items) c.in_ok-got.got in
    let here : IsListed all cid c.in-Ok-Entries.field-0 = c.in-Ok-Entries.ensures all (sym c.bytes_got.ensures) in
    let node = directory_node all cid block (rw c.in-Ok-Entries.field-0-is at here) in
    let got = got_one (g.S.Store.view c.args.store.now) (g.S.Store.view c.get_block.new.self) cid c.in_ok-got.got (λ stored. IsEntityAt stored cid block Directory)
    c.in_ok-got.ensures.verified c.in_ok-got.ensures.found
    (λ stored e.
    let listed : IsListed stored cid c.in-Ok-Entries.field-0 = c.in-Ok-Entries.ensures stored (e ∙ sym c.bytes_got.ensures) in
    rw c.in-Ok-Entries.field-0-is at listed) in
    rw (p.1, p.2) (fails_then g.S.Store c.args.store.now c.get_block.new.self c.entries_got.new.store (IsLinked node.0.links) (IsOfEntries cid) c.in_err-said-in-Ok-Entries.field-0.0
    c.get_block.ensures.reads.quiet c.in_ok-got.ensures.reads.same c.entries_got.ensures.reads.quiet
    (λ clean stored shows n at. inr (block, got_stored_so g.S.Store c.args.store.now c.get_block.new.self (λ s. IsEntityAt s cid block Directory) got clean stored shows, (node.0, node.1, at)))
    (c.in_err-said-in-Ok-Entries.ensures.fault node.0 node.1))
