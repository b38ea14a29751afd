use Rattle.std.proofs.Common.{◌≡◌, ◌++◌, [], ◌∷◌, Some, None, get_or, set, ap, sym, subst, ◌∙◌, arith}
use Rattle.std.specs.Prelude.{position}
use Rattle.std.proofs.lemmas.Bool.{lt-ltb, le-ltb}
use Rattle.cs_check_rules.specs.Heads.{is_above, with_head}
use Rattle.cs_check.specs.Archives.{Archived}
use Rattle.cs_check.proofs.Told.{is_own, found, changed, is_absent, none_under, appended}
use Rattle.cs_check.proofs.archive.Archive.keep.Goals as goal

pub returns-then-checkpoint-last-clause-news : goal.returns-then-checkpoint-last-clause-news
returns-then-checkpoint-last-clause-news c =
    let heads = c.args.self.now.heads in
    let last = c.index_mut-last.result.now in
    let same = ap (λ (a : Archived). a.heads) c.self.view_is in
    let at : position (is_own c.args.index) heads ≡ Some c.in-Some.place = cc (c.place_of.ensures, c.in-Some.is) in
    let read = subst (λ items. last ≡ get_or items c.in-Some.place last) same c.index_mut-last.ensures.value in
    sym
    (ap (λ told. is_above told c.args.checkpoint) (found c.args.index heads c.in-Some.place last at read)
    ∙ le-ltb _ _ (omega (arith, c.if-checkpoint-last.true)))

pub returns-else-checkpoint-last-clause-news : goal.returns-else-checkpoint-last-clause-news
returns-else-checkpoint-last-clause-news c =
    let heads = c.args.self.now.heads in
    let last = c.index_mut-last.result.now in
    let same = ap (λ (a : Archived). a.heads) c.self.view_is in
    let at : position (is_own c.args.index) heads ≡ Some c.in-Some.place = cc (c.place_of.ensures, c.in-Some.is) in
    let read = subst (λ items. last ≡ get_or items c.in-Some.place last) same c.index_mut-last.ensures.value in
    sym
    (ap (λ told. is_above told c.args.checkpoint) (found c.args.index heads c.in-Some.place last at read)
    ∙ lt-ltb _ _ (omega (arith, c.if-checkpoint-last.false)))

pub returns-else-checkpoint-last-clause-kept : goal.returns-else-checkpoint-last-clause-kept
returns-else-checkpoint-last-clause-kept c =
    let heads = c.args.self.now.heads in
    let last = c.index_mut-last.result.now in
    let same = ap (λ (a : Archived). a.heads) c.self.view_is in
    let at : position (is_own c.args.index) heads ≡ Some c.in-Some.place = cc (c.place_of.ensures, c.in-Some.is) in
    let read = subst (λ items. last ≡ get_or items c.in-Some.place last) same c.index_mut-last.ensures.value in
    let kept = ap (λ (a : Archived). a.kept) c.self.view_is in
    let hashed = ap (λ (a : Archived). a.hashed) c.self.view_is in
    let told : set c.self.inside.heads.items c.in-Some.place (last.0, c.args.checkpoint) ≡ with_head c.args.index c.args.checkpoint heads =
    ap (λ items. set items c.in-Some.place (last.0, c.args.checkpoint)) same
    ∙ sym (changed c.args.index c.args.checkpoint heads c.in-Some.place last at read) in
    λ i. record { kept = kept i; hashed = hashed i; heads = told i }

pub returns-in_ok-push-in-None-clause-news : goal.returns-in_ok-push-in-None-clause-news
returns-in_ok-push-in-None-clause-news c =
    let heads = c.args.self.now.heads in
    let same = ap (λ (a : Archived). a.heads) c.self.view_is in
    let none : position (is_own c.args.index) heads ≡ None = cc (c.place_of.ensures, c.in-None.is) in
    sym (ap (λ told. is_above told c.args.checkpoint) (none_under c.args.index heads (is_absent c.args.index heads none)))

pub returns-in_ok-push-in-None-clause-kept : goal.returns-in_ok-push-in-None-clause-kept
returns-in_ok-push-in-None-clause-kept c =
    let heads = c.args.self.now.heads in
    let same = ap (λ (a : Archived). a.heads) c.self.view_is in
    let none : position (is_own c.args.index) heads ≡ None = cc (c.place_of.ensures, c.in-None.is) in
    let kept = ap (λ (a : Archived). a.kept) c.self.view_is in
    let hashed = ap (λ (a : Archived). a.hashed) c.self.view_is in
    let one = (c.args.index, c.args.checkpoint) ∷ [] in
    let told : c.push.new.self.items ≡ with_head c.args.index c.args.checkpoint heads =
    c.in_ok-push-in-None.ensures.items ∙ ap (λ items. items ++ one) same
    ∙ sym (appended c.args.index c.args.checkpoint heads (is_absent c.args.index heads none)) in
    λ i. record { kept = kept i; hashed = hashed i; heads = told i }
