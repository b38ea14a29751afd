use Rattle.std.proofs.Common.{[], ◌∷◌, ◌∙◌}
use Rattle.cs_config.proofs.Filed.{nothing, fault-at, want-at}
use Rattle.cs_config.proofs.saving.save_one.Goals as goal

pub returns-in_err-name-clause-saved : goal.returns-in_err-name-clause-saved
returns-in_err-name-clause-saved g c =
    nothing c.args.site.now.config c.args.master.now (c.args.me ∷ []) c.from_residual.result (g.E.Store.files c.args.store.now) c.from_residual.ensures.1

pub returns-in_err-text-clause-saved : goal.returns-in_err-text-clause-saved
returns-in_err-text-clause-saved g c =
    nothing c.args.site.now.config c.args.master.now (c.args.me ∷ []) c.from_residual-in_err-text.result (g.E.Store.files c.args.store.now) c.from_residual-in_err-text.ensures.1

pub returns-in-Failed-clause-saved : goal.returns-in-Failed-clause-saved
returns-in-Failed-clause-saved g c =
    fault-at c.args.site.now.config c.args.master.now c.args.me c.as_str.result.now c.deref.result.now c.in_ok-text.text.items (g.E.Store.files c.args.store.now) (g.E.Store.files c.save.new.self)
    (c.as_str.ensures.value ∙ c.in_ok-name.ensures) c.deref.ensures.value c.in_ok-text.ensures c.in-Failed.ensures.content

pub returns-clause-saved : goal.returns-clause-saved
returns-clause-saved g c =
    want-at c.args.site.now.config c.args.master.now c.args.me c.as_str.result.now c.deref.result.now c.in_ok-text.text.items (g.E.Store.files c.args.store.now) (g.E.Store.files c.save.new.self)
    (c.as_str.ensures.value ∙ c.in_ok-name.ensures) c.deref.ensures.value c.in_ok-text.ensures c.in-Memory.ensures.content
