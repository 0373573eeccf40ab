use Rattle.program_index.proofs.Finding.{two_known, listed_leads}
use Rattle.program_index.proofs.find.find_block.Goals as goal

pub returns-in-None : goal.returns-in-None
returns-in-None g c = two_known (g.S.ReadAt.bytes c.args.source.now) (rw c.in-Some.is at c.in_ok-layout.ensures) (rw c.in-None.is at c.in_ok-block.ensures.sought)
    (λ b is none. (is.has, λ h. none h.index.fits (listed_leads b c.args.name.now c.in-Some.layout is h)))
