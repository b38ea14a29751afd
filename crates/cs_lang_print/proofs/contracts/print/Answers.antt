use Rattle.cs_lang_print.proofs.RoundTrip.{read_again}
use Rattle.cs_lang_print.proofs.contracts.print.Goals as goal

pub returns-in_err-put_types-clause-again : goal.returns-in_err-put_types-clause-again
returns-in_err-put_types-clause-again c = read_again c.args.contract.now c.tree-tree.ensures.spelled

pub returns-clause-again : goal.returns-clause-again
returns-clause-again c = read_again c.args.contract.now c.tree-tree.ensures.spelled
