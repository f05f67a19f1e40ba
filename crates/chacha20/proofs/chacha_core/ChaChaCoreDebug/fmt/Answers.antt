use Rattle.chacha20.proofs.chacha_core.ChaChaCoreDebug.fmt.Goals as goal

-- the search finds it too, but not soon that a wrong text has none
pub returns : goal.returns
returns g c = record {
  writes = λ plain ok. rw (c.COUNT-count.ensures, c.BITS-bits.ensures, g.met.V.Variant.bits) at
      c.write.ensures.writes plain ok;
}
