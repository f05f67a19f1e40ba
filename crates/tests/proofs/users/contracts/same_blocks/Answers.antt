use Rattle.tests.proofs.users.contracts.same_blocks.Goals as goal

-- answered for speed

pub returns-clause-blocks : goal.returns-clause-blocks
returns-clause-blocks g c i inside =
    let second = c.write_keystream_blocks-2.ensures.blocks i (rw (c.requires.lengths) at inside) in
    rw second (rw (c.requires.cores) at c.write_keystream_blocks.ensures.blocks i inside)

pub returns-clause-fixed : goal.returns-clause-fixed
returns-clause-fixed g c =
    rw (c.write_keystream_blocks-2.ensures.fixed)
    (rw (c.requires.cores) at c.write_keystream_blocks.ensures.fixed)

pub returns-clause-counter : goal.returns-clause-counter
returns-clause-counter g c =
    rw (c.write_keystream_blocks-2.ensures.counter)
    (rw (c.requires.cores, c.requires.lengths) at c.write_keystream_blocks.ensures.counter)
