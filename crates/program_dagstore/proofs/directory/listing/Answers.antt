use Rattle.std.proofs.Common.{inl, inr, refl, false}
use Rattle.ipld_paths.specs.Paths.{segments}
use Rattle.program_parts.specs.Entries.{IsListingUnder, IsListing}
use Rattle.program_parts.specs.FileNames.{LeadsByNames, EndsByNames}
use Rattle.program_parts.proofs.Listing.{if_ok_map}
use Rattle.program_dagstore.specs.Contents.{OfGot, IsOnTheWay}
use Rattle.program_dagstore.specs.Directories.{IsOfEntries, IsOfListing}
use Rattle.program_dagstore.proofs.Contents.{got_so, got_on, got_stored_so, fails_so, fails_after}
use Rattle.program_dagstore.proofs.directory.listing.Goals as goal

pub returns-in-Ok-Ok-clause-says : goal.returns-in-Ok-Ok-clause-says
returns-in-Ok-Ok-clause-says g c =
    let root = c.args.root.now in
    let path = segments c.args.path.now in
    let found = c.in-Ok-Ok.found in
    let old = c.args.store.now in
    let mid = c.find_file.new.store in
    let new = c.listing_under.new.store in
    if_ok_map (λ p. OfGot (g.S.Store.view mid) (g.S.Store.view new) (λ stored. IsListingUnder stored found p.0.1 p.0.0.items p.1.items)) (λ p. OfGot (g.S.Store.view old) (g.S.Store.view new) (λ stored. IsListing stored root path p.0.1 p.0.0.items p.1.items)) c.listing_under.result
    (λ p said.
    got_on g.S.Store old mid new (λ stored. LeadsByNames stored root path found) (λ stored. IsListingUnder stored found p.0.1 p.0.0.items p.1.items) (λ stored. IsListing stored root path p.0.1 p.0.0.items p.1.items)
    c.in-Ok-Ok.ensures.reads.same c.listing_under.ensures.reads.quiet (rw c.in-Ok-Ok.field-0-is at c.in-Ok-Ok.ensures.found) said
    (λ stored leads under. inl (found, leads, under)))
    c.listing_under.ensures.says

pub returns-in-Ok-Ok-clause-fault : goal.returns-in-Ok-Ok-clause-fault
returns-in-Ok-Ok-clause-fault g c =
    let root = c.args.root.now in
    let path = segments c.args.path.now in
    let found = c.in-Ok-Ok.found in
    fails_after g.S.Store c.args.store.now c.find_file.new.store c.listing_under.new.store (IsOfEntries found) (IsOfListing root path) c.listing_under.result c.find_file.ensures.reads.quiet c.in-Ok-Ok.ensures.reads.same c.listing_under.ensures.reads.quiet
    (λ clean stored shows n at. inr (found, got_stored_so g.S.Store c.args.store.now c.find_file.new.store (λ s. LeadsByNames s root path found) (rw c.in-Ok-Ok.field-0-is at c.in-Ok-Ok.ensures.found) clean stored shows, at))
    c.listing_under.ensures.fault

pub returns-in_ok-line-in-Ok-Err-clause-says : goal.returns-in_ok-line-in-Ok-Err-clause-says
returns-in_ok-line-in-Ok-Err-clause-says g c =
    let root = c.args.root.now in
    let path = segments c.args.path.now in
    let end = c.in-Ok-Err.end in
    got_so (g.S.Store.view c.args.store.now) (g.S.Store.view c.find_file.new.store) (λ stored. EndsByNames stored root path end) (λ stored. IsListing stored root path false c.new.result.items c.in_ok-line-in-Ok-Err.line.items) (rw c.in-Ok-Err.field-0-is at c.in-Ok-Err.ensures.found)
    (λ stored ends. inr (end, ends, refl, c.new.ensures.items, c.in_ok-line-in-Ok-Err.ensures))

pub returns-in-Err-clause-fault : goal.returns-in-Err-clause-fault
returns-in-Err-clause-fault g c =
    let root = c.args.root.now in
    let path = segments c.args.path.now in
    fails_so g.S.Store c.args.store.now c.find_file.new.store (IsOnTheWay root path) (IsOfListing root path) c.in-Err.fault (λ stored n on. inl on) c.in-Err.ensures.fault
