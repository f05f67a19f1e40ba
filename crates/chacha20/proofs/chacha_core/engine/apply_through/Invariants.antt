use Rattle.std.proofs.Common.{◌*◌, length}
use Rattle.chacha_base.specs.Counts.{Grows, for_call}
use Rattle.chacha20.proofs.BlocksLemmas.{IsAt}
use Rattle.chacha20.proofs.chacha_core.engine.apply_through.Given as goal

abbrev pub invariant-groups : goal.invariant-groups
invariant-groups g l =
    let n = g.R.Rounds.COUNT in
    record {
      engine : IsAt n g.V.Variant.layout (length l.fn.«data») l.fn.state (g.T.Target.so_far l.input l.fn.«data» 0)
          (l.width * l.group) l.state (g.T.Target.so_far l.input l.«data» (64 * (l.width * l.group)));
      steps : Grows (for_call l.group 0 (l.group * (g.B.StreamCipherBackend.PAR_STEPS * n))) l.fn.steps l.steps;
    }
