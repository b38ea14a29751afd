use Rattle.std.proofs.Common.{◌++◌, ◌∙◌, false}
use Rattle.std.specs.Prelude.{codes}
use Rattle.cs_base.proofs.Known.{on_err}
use Rattle.cs_lang.specs.declared.tree.Link.{Link}
use Rattle.cs_lang_print.specs.Words.{word}
use Rattle.cs_lang_print.specs.Spelling.{held_together}
use Rattle.cs_lang_print.specs.Expressions.{spelled, spelled_link, step_text}
use Rattle.cs_lang_print.specs.Runs.{parts_text}
use Rattle.cs_lang_print.proofs.Begun.{further}
use Rattle.cs_lang_print.proofs.RunTexts.{ok_two, ok_three, concat_is}
use Rattle.cs_lang_print.proofs.Layers.{text_concat, text_path, text_compared, chain_cited}
use Rattle.cs_lang_print.proofs.expressions.+spelling.Goals as goal

pub put_expr-returns-in_ok-put_front-in-Concat-clause-text : goal.put_expr-returns-in_ok-put_front-in-Concat-clause-text
put_expr-returns-in_ok-put_front-in-Concat-clause-text t c =
    let text = text_concat c.args.expr.now c.in-Concat.front c.in-Concat.back c.in-Concat.is ∙ concat_is (spelled c.in-Concat.front).text (spelled c.in-Concat.back).text in
    ok_two _ _ _ _ _ (word (codes ",") ++ ((spelled c.get-in-Concat-2.result.now).text ++ word (codes ")"))) (spelled c.args.expr.now).text
    c.in_ok-put_front-in-Concat.ensures.text c.put_back.ensures.text (cc (text, c.get-in-Concat.ensures, c.get-in-Concat-2.ensures))

pub put_expr-returns-in_ok-put_within-in-Path-clause-text : goal.put_expr-returns-in_ok-put_within-in-Path-clause-text
put_expr-returns-in_ok-put_within-in-Path-clause-text t c =
    let text = text_path c.args.expr.now c.in-Path.start c.in-Path.steps c.in-Path.is in
    ok_three _ _ _ _ _ _ _ (parts_text step_text false c.as_slice-in-Path.result.now) (spelled c.args.expr.now).text
    c.in_ok-put_openings-in-Path.ensures.text c.in_ok-put_within-in-Path.ensures.text c.put_steps.ensures.text (cc (text, c.len.ensures, c.get-in-Path.ensures, c.as_slice-in-Path.ensures))

pub put_expr-returns-in_ok-put_comparison-in-Compared-clause-text : goal.put_expr-returns-in_ok-put_comparison-in-Compared-clause-text
put_expr-returns-in_ok-put_comparison-in-Compared-clause-text t c =
    let text = text_compared c.args.expr.now c.in-Compared.comparison c.in-Compared.left c.in-Compared.right c.in-Compared.is in
    ok_three _ _ _ _ _ _ _ (held_together 4 (spelled c.get-in-Compared-2.result.now)) (spelled c.args.expr.now).text
    c.in_ok-put_within-in-Compared.ensures.text c.in_ok-put_comparison-in-Compared.ensures.text c.put_within-in-Compared-2.ensures.text (cc (text, c.get-in-Compared.ensures, c.get-in-Compared-2.ensures))

pub put_expr-returns-in_ok-put_within-in-Chain-clause-text : goal.put_expr-returns-in_ok-put_within-in-Chain-clause-text
put_expr-returns-in_ok-put_within-in-Chain-clause-text t c =
    ok_three _ _ _ _ _ _ _ (parts_text (λ (link : Link). spelled_link link c.operand_tightness-tight.result) false c.as_slice-in-Chain.result.now) (spelled c.args.expr.now).text
    c.in_ok-put_openings-in-Chain.ensures.text c.in_ok-put_within-in-Chain.ensures.text c.put_links.ensures.text
    (chain_cited c.args.expr.now c.in-Chain.rank c.in-Chain.start _ c.in-Chain.links _ _ _ c.operand_tightness-tight.ensures c.len-in-Chain.ensures c.get-in-Chain.ensures c.as_slice-in-Chain.ensures c.in-Chain.is)

pub put_row-returns-in_err-put_item-clause-front : goal.put_row-returns-in_err-put_item-clause-front
put_row-returns-in_err-put_item-clause-front t c =
    on_err c.from_residual.result (further c.put_item.new.out.items c.loop-item.out.items c.args.out.now.items c.in_err-put_item.ensures.front c.loop-item.invariant.begun)

pub put_links-returns-in_err-put_next_link-clause-front : goal.put_links-returns-in_err-put_next_link-clause-front
put_links-returns-in_err-put_next_link-clause-front t c =
    on_err c.from_residual.result (further c.put_next_link.new.out.items c.loop-link.out.items c.args.out.now.items c.in_err-put_next_link.ensures.front c.loop-link.invariant.begun)

pub put_steps-returns-in_err-put_next_step-clause-front : goal.put_steps-returns-in_err-put_next_step-clause-front
put_steps-returns-in_err-put_next_step-clause-front t c =
    on_err c.from_residual.result (further c.put_next_step.new.out.items c.loop-step.out.items c.args.out.now.items c.in_err-put_next_step.ensures.front c.loop-step.invariant.begun)
