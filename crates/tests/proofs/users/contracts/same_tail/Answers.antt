use Rattle.tests.proofs.users.contracts.same_tail.Goals as goal

-- answered for speed
pub returns-clause-blocks : goal.returns-clause-blocks
returns-clause-blocks g c i inside =
    let second = c.gen_tail_blocks-2.ensures.blocks i (rw (c.requires.lengths) at inside) in
    rw second (rw (c.requires.states) at c.gen_tail_blocks.ensures.blocks i inside)

pub returns-clause-state : goal.returns-clause-state
returns-clause-state g c =
    rw (c.gen_tail_blocks-2.ensures.state)
    (rw (c.requires.states, c.requires.lengths) at c.gen_tail_blocks.ensures.state)
