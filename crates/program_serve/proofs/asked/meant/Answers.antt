use Rattle.program_serve.proofs.asked.meant.Goals as goal

pub returns-in-Next : goal.returns-in-Next
returns-in-Next c = rw c.in-Next.is c.next_in.ensures

pub returns-in-Put : goal.returns-in-Put
returns-in-Put c = rw c.in-Put.is c.put_in.ensures

pub returns-in-Add : goal.returns-in-Add
returns-in-Add c = rw c.in-Add.is c.add_in.ensures
