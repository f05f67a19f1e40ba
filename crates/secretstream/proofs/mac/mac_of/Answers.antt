use Rattle.std.proofs.Common.{◌∙◌, [], ap}
use Rattle.poly1305.specs.Poly1305.{poly1305}
use Rattle.secretstream.proofs.MessageLemmas.{mac_text-parts}
use Rattle.secretstream.proofs.mac.mac_of.Goals as goal

pub returns : goal.returns
returns c =
    let aad = c.args.aad.now in
    let one = c.update.ensures _ [] c.new-mac.ensures in
    let two = c.update-2.ensures _ _ one in
    let three = c.update-3.ensures _ _ two in
    let four = c.update-4.ensures _ _ three in
    let five = c.update-5.ensures _ _ four in
    c.finish.ensures _ _ (c.update-6.ensures _ _ five)
    ∙ ap (poly1305 c.args.key.now)
    (mac_text-parts aad c.args.block.now c.args.text.now _ c.told-block c.lengths.ensures)
