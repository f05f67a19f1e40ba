use Rattle.std.proofs.Common.{◌∙◌, length, sym, arith, ap}
use Rattle.std.specs.Prelude.{not}
use Rattle.std.proofs.lemmas.Bool.{false≢true}
use Rattle.packets.specs.Packets.{Inbox, index_of, counter_of, IsPacket}
use Rattle.packets.proofs.PacketLemmas.{accepted, sealed-text, packet-kind}
use Rattle.packets.proofs.receiver.Receiver.open.Goals as goal

pub returns-then-is_none-clause-opens : goal.returns-then-is_none-clause-opens
returns-then-is_none-clause-opens c index n text sent =
    let kind = packet-kind c.args.self.now.key c.args.packet.now index n text sent in
    let is_some = c.index_of.ensures.is_some.1 (omega (arith, c.requires), kind) in
    let never = sym (c.is_none.ensures ∙ ap not c.if-is_none.true) ∙ is_some in
    (λ no. absurd (false≢true no), λ fits. absurd (false≢true never))

pub returns-then-is_none-clause-accepted : goal.returns-then-is_none-clause-accepted
unfolding IsPacket
returns-then-is_none-clause-accepted c = (
  λ no. absurd (false≢true no),
  λ sent.
      let packet = c.args.packet.now in
      (returns-then-is_none-clause-opens c (index_of packet) (counter_of packet) sent.0 sent.2).1 sent.1,
)

pub returns-clause-accepted : goal.returns-clause-accepted
returns-clause-accepted c =
    let key = c.new.ensures ∙ ap (λ (r : Inbox). r.key) c.self.view_is in
    let is = c.index_of.ensures.is_some.0 (c.is_none.ensures ∙ ap not c.if-is_none.false) in
    let tagged =
    rw (key, c.nonce_of-nonce.ensures.value, c.counter_of.ensures, c.split_at.ensures.back)
    at c.decrypt.ensures.accepted in
    let packet = accepted _ c.args.packet.now (length c.args.output.now) c.requires is c.type_inv.packet in
    (λ ok. packet.0 (tagged.0 ok), λ sent. tagged.1 (packet.1 sent))

pub returns-clause-opens : goal.returns-clause-opens
returns-clause-opens c index n text sent =
    let key = c.new.ensures ∙ ap (λ (r : Inbox). r.key) c.self.view_is in
    let is = c.index_of.ensures.is_some.0 (c.is_none.ensures ∙ ap not c.if-is_none.false) in
    let sealed = sealed-text c.args.self.now.key c.args.packet.now (length c.args.output.now) c.requires is
    c.type_inv.packet index n text sent in
    let opens =
    (rw (key, c.nonce_of-nonce.ensures.value, c.counter_of.ensures, c.split_at.ensures.back)
    at c.decrypt.ensures.opens text) sealed in
    (λ ok. omega (arith, opens.0 ok), λ fits. opens.1 (omega (arith, fits)))

pub returns-clause-text : goal.returns-clause-text
returns-clause-text c index n text sent =
    let key = c.new.ensures ∙ ap (λ (r : Inbox). r.key) c.self.view_is in
    let is = c.index_of.ensures.is_some.0 (c.is_none.ensures ∙ ap not c.if-is_none.false) in
    let sealed = sealed-text c.args.self.now.key c.args.packet.now (length c.args.output.now) c.requires is
    c.type_inv.packet index n text sent in
    (rw (key, c.nonce_of-nonce.ensures.value, c.counter_of.ensures, c.split_at.ensures.back)
    at c.decrypt.ensures.decrypted text) sealed
