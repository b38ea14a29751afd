use Rattle.std.proofs.Common.{◌≡◌, ℕ, ◌+◌, List, Ok, Err, None, take, sym, subst}
use Rattle.cs_approve.specs.Books.{first_refused}
use Rattle.cs_deploy.specs.Taking.{TakesFiles, FilesCome}
use Rattle.cs_deploy.specs.Files.{text_taken, texts_taken}
use Rattle.cs_io.specs.laws.Told.{stays-both}
use Rattle.cs_deploy.proofs.Steps.{gave, le_both}
use Rattle.cs_deploy.proofs.Texts.{texts-next, texts-refused, texts-all, none-refused}
use Rattle.cs_deploy.proofs.contracts.take_texts.Goals as goal

pub returns-in_err-text-clause-taken : goal.returns-in_err-text-clause-taken
returns-in_err-text-clause-taken g c =
    let name = c.name-item.result in
    let before = g.E.Store.files c.args.store.now in
    let at = g.E.Store.files c.loop-name.store in
    let why = c.in_err-text.field-0.0 in
    gave (FilesCome (texts_taken c.args.names.now)) before why c.from_residual.result c.from_residual.ensures.1
    (texts-refused c.args.names.now c.loop-name.name-index name name c.loop-name-test.true c.name-item.is c.loop-name.texts why before at
    c.loop-name.invariant.taken c.loop-name.invariant.kept
    (subst (λ (n : List ℕ). TakesFiles (FilesCome (text_taken n)) at (Err why)) c.as_str.ensures c.in_err-text.ensures.taken))

pub loop-name-preserved : goal.loop-name-preserved
loop-name-preserved g c =
    let name = c.name-item.result in
    let i = c.loop-name.name-index in
    let text = c.in_ok-text.text in
    let before = g.E.Store.files c.args.store.now in
    let at = g.E.Store.files c.loop-name.store in
    record {
      taken = subst (λ (texts : List (List ℕ)). TakesFiles (FilesCome (texts_taken (take (i + 1) c.args.names.now))) before (Ok texts)) (sym c.in-Ok.ensures.ok)
          (texts-next c.args.names.now i name name c.loop-name-test.true c.name-item.is c.loop-name.texts text before at
          c.loop-name.invariant.taken c.loop-name.invariant.kept
          (subst (λ (n : List ℕ). TakesFiles (FilesCome (text_taken n)) at (Ok text)) c.as_str.ensures c.in_ok-text.ensures.taken));
      accepted = subst (λ (texts : List (List ℕ)). first_refused texts ≡ None) (sym c.in-Ok.ensures.ok)
          (none-refused c.loop-name.texts text c.loop-name.invariant.accepted c.in_ok-text.ensures.accepted);
      kept = stays-both before at (g.E.Store.files c.take_text.new.store) c.loop-name.invariant.kept c.in_ok-text.ensures.kept;
      faults = le_both (g.E.Store.faults c.args.store.now) (g.E.Store.faults c.loop-name.store) (g.E.Store.faults c.take_text.new.store)
          c.loop-name.invariant.faults c.in_ok-text.ensures.cause.later;
    }

pub returns-clause-taken : goal.returns-clause-taken
returns-clause-taken g c =
    texts-all c.args.names.now c.loop-name.name-index c.loop-name.texts (g.E.Store.files c.args.store.now) c.loop-name-test.false c.loop-name.invariant.taken
