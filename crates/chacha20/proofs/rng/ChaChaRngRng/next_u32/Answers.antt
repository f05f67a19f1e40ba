use Rattle.rand_core.proofs.StepsLemmas.{meets_next_u32}
use Rattle.chacha20.specs.Generator.{reads}
use Rattle.chacha20.proofs.rng.ChaChaRngRng.next_u32.Goals as goal

pub returns : goal.returns
returns g c =
    let call = c.next_u32 in
    meets_next_u32 (reads g.R.Rounds.COUNT) c.args.self.now call.new.self call.result call.ensures.value
