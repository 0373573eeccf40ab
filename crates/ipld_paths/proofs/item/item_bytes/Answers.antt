use Rattle.std.proofs.Common.{inl, inr, arith, sym}
use Rattle.std.proofs.lemmas.Result.{MatchResult-weaker}
use Rattle.ipld_links.specs.Reaching.{stored_in}
use Rattle.ipld_paths.specs.Resolving.{readable_bytes}
use Rattle.ipld_paths.proofs.Telling.{item_given, no_bytes_given, none_under}
use Rattle.ipld_paths.proofs.item.item_bytes.Goals as goal

pub returns-in-Some : goal.returns-in-Some
returns-in-Some c = MatchResult-weaker c.part_in.result c.part_in.ensures (λ r given root path h.
    item_given readable_bytes (stored_in c.args.blocks.now) root path c.args.resolved.now _ _ _ c.in-Item.is c.in-Some.bytes.now r (inl (sym c.in-Some.ensures)) given h) (λ _ is. inl is)

pub returns-in-Some-2 : goal.returns-in-Some-2
returns-in-Some-2 c = λ root path h.
    item_given readable_bytes (stored_in c.args.blocks.now) root path c.args.resolved.now _ _ _ c.in-Item.is c.digest.result.now _ (inr (sym c.in-None.ensures, omega (arith, c.hash_code.ensures, c.if-hash_code-eq-IDENTITY.true), sym c.digest.ensures)) (rw c.in-Some-2.is at c.in_ok-part-in-None.ensures) h

pub returns-in-None-3 : goal.returns-in-None-3
returns-in-None-3 c = λ root path h.
    item_given readable_bytes (stored_in c.args.blocks.now) root path c.args.resolved.now _ _ _ c.in-Item.is c.digest.result.now _ (inr (sym c.in-None.ensures, omega (arith, c.hash_code.ensures, c.if-hash_code-eq-IDENTITY.true), sym c.digest.ensures)) (rw c.in-None-3.is at c.in_ok-part-in-None.ensures) h

pub returns-in-None-2 : goal.returns-in-None-2
returns-in-None-2 c = λ root path h.
    no_bytes_given readable_bytes (stored_in c.args.blocks.now) root path c.args.resolved.now _ _ _ c.in-Item.is (none_under (stored_in c.args.blocks.now) c.args.resolved.now.block (sym c.in-None.ensures) (λ is. omega (arith, is, c.hash_code.ensures, c.if-hash_code-eq-IDENTITY.false))) h
