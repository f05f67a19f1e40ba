use Rattle.std.proofs.Common.{◌++◌, ◌∙◌, ap, ap₂, arith}
use Rattle.packets.specs.Packets.{Outbox, packet_of, counter_of}
use Rattle.packets.proofs.PacketLemmas.{counter-packet_of}
use Rattle.packets.proofs.sender.Sender.send.Goals as goal

pub returns-in-Ok-clause-packet : goal.returns-in-Ok-clause-packet
unfolding packet_of
returns-in-Ok-clause-packet c =
    let sealed = rw (c.new.ensures, c.nonce_of.ensures.value) at c.in-Ok.ensures.sealed in
    ap₂ ◌++◌ (c.copy_from_slice.ensures.after ∙ c.header_of.ensures) sealed
    ∙ ap (λ (s : Outbox). packet_of s.key s.index s.next c.args.text.now) c.self.view_is

pub returns-in-Ok-clause-counter : goal.returns-in-Ok-clause-counter
returns-in-Ok-clause-counter c =
    let s = c.args.self.now in
    ap counter_of (returns-in-Ok-clause-packet c)
    ∙ counter-packet_of s.key s.index s.next c.args.text.now (grind arith)
