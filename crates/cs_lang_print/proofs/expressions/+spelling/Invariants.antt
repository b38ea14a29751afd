use Rattle.std.proofs.Common.{◌≡◌, ◌+◌, ◌++◌, drop, length, false}
use Rattle.cs_lang_print.specs.Words.{GoesOnBehind}
use Rattle.cs_lang.specs.declared.tree.Link.{Link}
use Rattle.cs_lang_print.specs.Expressions.{expr_text, spelled_link, step_text}
use Rattle.cs_lang_print.specs.Runs.{parts_text, items_text}
use Rattle.cs_lang_print.proofs.expressions.+spelling.Given as goal

abbrev pub invariant-put_row-loop-item : goal.invariant-put_row-loop-item
invariant-put_row-loop-item l = record {
  put : l.out.items ++ items_text expr_text l.behind (drop l.item-index l.items) ≡ l.initial.out.items ++ items_text expr_text false l.items;
  begun : GoesOnBehind l.out.items l.initial.out.items;
}

abbrev pub invariant-put_links-loop-link : goal.invariant-put_links-loop-link
invariant-put_links-loop-link l = record {
  counted : l.left + l.link-index ≡ length l.links;
  put : l.out.items ++ parts_text (λ (link : Link). spelled_link link l.tight) l.behind (drop l.link-index l.links) ≡ l.initial.out.items ++ parts_text (λ (link : Link). spelled_link link l.tight) false l.links;
  begun : GoesOnBehind l.out.items l.initial.out.items;
}

abbrev pub invariant-put_steps-loop-step : goal.invariant-put_steps-loop-step
invariant-put_steps-loop-step l = record {
  counted : l.left + l.step-index ≡ length l.steps;
  put : l.out.items ++ parts_text step_text l.behind (drop l.step-index l.steps) ≡ l.initial.out.items ++ parts_text step_text false l.steps;
  begun : GoesOnBehind l.out.items l.initial.out.items;
}
