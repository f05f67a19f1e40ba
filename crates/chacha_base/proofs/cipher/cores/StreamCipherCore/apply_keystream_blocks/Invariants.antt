use Rattle.std.proofs.Common.{◌≡◌, ◌≤◌, ◌-◌, length}
use Rattle.chacha_base.proofs.KeystreamLemmas.{AreCombined}
use Rattle.chacha_base.proofs.cipher.cores.StreamCipherCore.apply_keystream_blocks.Given as goal

abbrev pub invariant-groups : goal.invariant-groups
invariant-groups g l = record {
  within : l.done ≤ length l.fn.blocks;
  fixed : g.Self.Keystream.fixed l.self ≡ g.Self.Keystream.fixed l.fn.self;
  blocks : AreCombined g.Self.Keystream.modulus (g.Self.Keystream.block_at (g.Self.Keystream.fixed l.fn.self))
      (g.Self.StreamCipherCore.counter l.fn.self) l.fn.blocks l.done (g.Self.StreamCipherCore.counter l.self) l.blocks;
}

abbrev pub decreases-groups : goal.decreases-groups
decreases-groups g l = length l.initial.blocks - l.done
