use Rattle.std.proofs.Common.{sym, subst}
use Rattle.cs_lang.specs.Texts.{IsRefusal}
use Rattle.cs_explain.proofs.FrontLaws.{read_goes, syntax_goes, long_stops, lex_stops}
use Rattle.cs_explain.proofs.fronts.goes_on.Goals as goal

pub returns-in-Ok : goal.returns-in-Ok
returns-in-Ok c = sym (read_goes c.args.text.now c.in-Ok._contract c.in-Ok.ensures.found)

pub returns-in-Err-Syntax : goal.returns-in-Err-Syntax
returns-in-Err-Syntax c =
    syntax_goes c.args.text.now c.in-Err-Syntax.place (subst (IsRefusal c.args.text.now) c.in-Err-Syntax.field-0-is c.in-Err-Syntax.ensures.refused)

pub returns-in-Err-TooLong : goal.returns-in-Err-TooLong
returns-in-Err-TooLong c = sym (long_stops c.args.text.now (subst (IsRefusal c.args.text.now) c.in-Err-TooLong.field-0-is c.in-Err-TooLong.ensures.refused))

pub returns-in-Err-Lex : goal.returns-in-Err-Lex
returns-in-Err-Lex c = sym (lex_stops c.args.text.now _ (subst (IsRefusal c.args.text.now) c.in-Err-Lex.field-0-is c.in-Err-Lex.ensures.refused).1)
