use Rattle.chacha20.proofs.rng.ChaChaRngR8Debug.fmt.Goals as goal

-- answered for speed
pub returns : goal.returns
returns g c = record { writes = c.write_str.ensures.writes }
