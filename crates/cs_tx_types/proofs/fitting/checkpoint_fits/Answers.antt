use Rattle.cs_tx_types.proofs.fitting.checkpoint_fits.Goals as goal

pub returns : goal.returns
returns c = λ version leaves.
    record {
      shard = c.numbers_fit.ensures.shard;
      number = c.numbers_fit.ensures.number;
      previous = c.digest_fits.ensures;
      leaf_root = c.digest_fits-2.ensures;
      table_root = c.digest_fits-3.ensures;
      leaves = leaves;
    }
