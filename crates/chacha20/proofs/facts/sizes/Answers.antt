use Rattle.chacha20.proofs.facts.sizes.Goals as goal

-- answered for speed
pub returns : goal.returns
returns c = record {
  key = c.told-key;
  nonce = c.told-nonce;
  legacy_key = c.told-legacy_key;
  legacy_nonce = c.told-legacy_nonce;
  extended_key = c.told-extended_key;
  extended_nonce = c.told-extended_nonce;
}
