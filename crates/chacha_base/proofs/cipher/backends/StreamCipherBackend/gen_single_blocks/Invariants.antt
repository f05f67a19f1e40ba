use Rattle.std.proofs.Common.{◌≡◌, ◌*◌}
use Rattle.chacha_base.specs.State.{state_after, AreNextBlocks}
use Rattle.chacha_base.specs.Counts.{Grows, for_call}
use Rattle.chacha_base.proofs.cipher.backends.StreamCipherBackend.gen_single_blocks.Given as goal

abbrev pub invariant-each : goal.invariant-each
invariant-each g l =
    let n = g.R.Rounds.COUNT in
    record {
      blocks : AreNextBlocks n g.V.Variant.layout l.fn.state l.i l.blocks;
      state : l.state ≡ state_after g.V.Variant.layout l.i l.fn.state;
      steps : Grows (for_call 0 l.i (l.i * (g.Self.StreamCipherBackend.ONE_STEPS * n))) l.fn.steps l.steps;
    }
