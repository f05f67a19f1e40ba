use Rattle.std.proofs.Common.{length}
use Rattle.rand_core.proofs.StepsLemmas.{meets_fill_bytes}
use Rattle.chacha20.specs.Generator.{reads}
use Rattle.chacha20.proofs.rng.ChaChaRngRng.fill_bytes.Goals as goal

pub returns : goal.returns
returns g c =
    let call = c.fill_bytes in
    meets_fill_bytes (reads g.R.Rounds.COUNT) (length c.args.dst.now) c.args.self.now call.new.self call.new.dst
    call.ensures.value
