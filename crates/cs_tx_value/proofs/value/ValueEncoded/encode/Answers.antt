use Rattle.cs_tx_value.proofs.value.ValueEncoded.encode.Goals as goal

pub write_value-requires : goal.write_value-requires
write_value-requires c = (4, c.requires)
