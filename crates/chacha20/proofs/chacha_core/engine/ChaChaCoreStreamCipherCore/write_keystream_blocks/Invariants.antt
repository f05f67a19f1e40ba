use Rattle.std.proofs.Common.{◌-◌, length}
use Rattle.chacha20.proofs.BlocksLemmas.{AreMade}
use Rattle.chacha20.proofs.chacha_core.engine.ChaChaCoreStreamCipherCore.write_keystream_blocks.Given as goal

abbrev pub invariant-groups : goal.invariant-groups
invariant-groups g l = AreMade g.R.Rounds.COUNT g.V.Variant.layout l.fn.self l.done l.self-inside.state l.blocks

abbrev pub decreases-groups : goal.decreases-groups
decreases-groups g l = length l.initial.blocks - l.done
