use Rattle.chacha_base.proofs.backends.narrow.write_up_to_8.Goals as goal

-- answered for speed, as the next ones
pub returns-in-3 : goal.returns-in-3
returns-in-3 g c =
    let made = c.write_narrow_tail-in-3.ensures in
    record { blocks = made.blocks; state = made.state; steps = made.steps; rounds = made.rounds }

pub returns-in-5 : goal.returns-in-5
returns-in-5 g c =
    let made = c.write_narrow_tail-in-5.ensures in
    record { blocks = made.blocks; state = made.state; steps = made.steps; rounds = made.rounds }

pub returns-in_default : goal.returns-in_default
returns-in_default g c =
    let made = c.write_narrow_tail-in_default.ensures in
    record { blocks = made.blocks; state = made.state; steps = made.steps; rounds = made.rounds }
