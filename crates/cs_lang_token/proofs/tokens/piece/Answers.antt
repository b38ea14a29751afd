use Rattle.std.proofs.Common.{rules, ◌≡◌, ◌<◌, ◌==◌, ◌++◌, false, ℕ, List, [], refl, sym, ap, ◌∙◌, cond, arith}
use Rattle.std.proofs.lemmas.List.{append-nil}
use Rattle.cs_lang_token.proofs.Lexed.{piece_blank}
use Rattle.cs_lang_token.proofs.tokens.piece.Goals as goal

pub returns-then-blank-gt0-clause-ok : goal.returns-then-blank-gt0-clause-ok
returns-then-blank-gt0-clause-ok c = ([], piece_blank c.args.place c.args.bytes.now _ c.blank_length-blank.ensures.value (omega arith), sym (append-nil c.args.tokens.now.items))
