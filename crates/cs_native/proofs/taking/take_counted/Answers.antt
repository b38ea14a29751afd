use Rattle.cs_native.proofs.taking.take_counted.Goals as goal

pub take_values-requires : goal.take_values-requires
take_values-requires c = (4, c.requires.1)
