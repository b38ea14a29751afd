use Rattle.std.proofs.Common.{rules, ◌≡◌, ◌+◌, ◌-◌, ◌<◌, ◌≤◌, ◌++◌, length, drop, ℕ, List, Bool, true, false, refl, sym, ap, subst, ◌∙◌, arith}
use Rattle.std.proofs.lemmas.Bool.Decides.{nat_tests}
use Rattle.std.specs.Prelude.{Ok, Err, IfErr}
use Rattle.std.proofs.lemmas.Result.{err_from_is_err_and}
use Rattle.cs_lang_token.proofs.Lexed.{lexed_turn, lexed_done, refused_here}
use Rattle.cs_lang_token.proofs.tokens.tokens_of.Goals as goal

pub returns-in_err-length-clause-bad : goal.returns-in_err-length-clause-bad
returns-in_err-length-clause-bad c =
    let p = err_from_is_err_and c.from_residual.result c.from_residual.ensures.1 in
    let some : 0 < length c.loop-rest.rest.now = grind (arith, nat_tests, c.is_empty.ensures, c.loop-rest-test.true) in
    rw (p.1, p.2) (refused_here _ _ _ _ _ _ some c.loop-rest.invariant.1.1 c.loop-rest.invariant.1.2 c.in_err-length.ensures.bad)

pub loop-rest-preserved : goal.loop-rest-preserved
loop-rest-preserved c =
    let some : 0 < length c.loop-rest.rest.now = grind (arith, nat_tests, c.is_empty.ensures, c.loop-rest-test.true) in
    let more = c.in_ok-length.ensures.ok in
    lexed_turn _ _ _ _ _ _ _ _ _ _ some c.loop-rest.invariant.1.1 c.loop-rest.invariant.1.2 more.1 more.2 (c.in_ok-length.ensures.bound some) c.split_at.ensures.back c.loop-rest.invariant.0

pub returns-clause-read : goal.returns-clause-read
returns-clause-read c = lexed_done _ c.loop-rest.invariant.1.0 _ _ _ (grind (arith, nat_tests, c.is_empty.ensures, c.loop-rest-test.false)) c.loop-rest.invariant.1.2
