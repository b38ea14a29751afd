use Rattle.std.proofs.Common.{◌∙◌}
use Rattle.cs_lang_print.specs.Statements.{name_text, statements_text}
use Rattle.cs_lang_print.specs.Expressions.{expr_text}
use Rattle.cs_lang_print.proofs.RunTexts.{ok_two, ok_three, if_is, if_else_is, for_is}
use Rattle.cs_lang_print.proofs.Actions.{text_if, text_ifelse, text_forin}
use Rattle.cs_lang_print.proofs.statements.+printing.Goals as goal

pub put_statement-returns-in_ok-put_condition-in-If-clause-text : goal.put_statement-returns-in_ok-put_condition-in-If-clause-text
put_statement-returns-in_ok-put_condition-in-If-clause-text t c =
    let text = text_if c.args.one.now c.in-If.condition c.in-If.block c.in-If.is ∙ if_is (expr_text c.in-If.condition) (statements_text c.in-If.block) in
    ok_two _ _ _ _ _ _ _ c.in_ok-put_condition-in-If.ensures.text c.put_block.ensures.text text

pub put_statement-returns-in_ok-put_block_before_else-in-IfElse-clause-text : goal.put_statement-returns-in_ok-put_block_before_else-in-IfElse-clause-text
put_statement-returns-in_ok-put_block_before_else-in-IfElse-clause-text t c =
    let text = text_ifelse c.args.one.now c.in-IfElse.condition c.in-IfElse.block c.in-IfElse.other c.in-IfElse.is
    ∙ if_else_is (expr_text c.in-IfElse.condition) (statements_text c.in-IfElse.block) (statements_text c.in-IfElse.other) in
    ok_three _ _ _ _ _ _ _ _ _ c.in_ok-put_condition-in-IfElse.ensures.text c.in_ok-put_block_before_else-in-IfElse.ensures.text c.put_block-in-IfElse.ensures.text text

pub put_statement-returns-in_ok-put_for_in-in-ForIn-clause-text : goal.put_statement-returns-in_ok-put_for_in-in-ForIn-clause-text
put_statement-returns-in_ok-put_for_in-in-ForIn-clause-text t c =
    let text = text_forin c.args.one.now c.in-ForIn.name c.in-ForIn.list c.in-ForIn.block c.in-ForIn.is
    ∙ for_is (name_text c.in-ForIn.name) (expr_text c.in-ForIn.list) (statements_text c.in-ForIn.block) in
    ok_two _ _ _ _ _ _ _ c.in_ok-put_for_in-in-ForIn.ensures.text c.put_block-in-ForIn.ensures.text text
