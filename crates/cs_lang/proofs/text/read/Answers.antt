use Rattle.std.proofs.Common.{rules, ◌≡◌, arith}
use Rattle.cs_lang.proofs.Sentences.{took_all, only_all, went_on, stopped}
use Rattle.cs_lang.proofs.text.read.Goals as goal

pub returns-then-len-gt0-clause-only : goal.returns-then-len-gt0-clause-only
returns-then-len-gt0-clause-only c = λ e t. absurd ((went_on _ _ _ _ c.new-cursor.ensures c.in-Ok.ensures (omega arith)).none e t)

pub returns-then-len-gt0-clause-refused : goal.returns-then-len-gt0-clause-refused
returns-then-len-gt0-clause-refused c = (c.contract.new.cursor, went_on _ _ _ _ c.new-cursor.ensures c.in-Ok.ensures (omega arith), c.place.ensures)

pub returns-else-len-gt0-clause-found : goal.returns-else-len-gt0-clause-found
returns-else-len-gt0-clause-found c = took_all _ _ _ _ c.new-cursor.ensures c.in-Ok.ensures (omega arith)

pub returns-else-len-gt0-clause-only : goal.returns-else-len-gt0-clause-only
returns-else-len-gt0-clause-only c = λ e t. only_all _ _ _ _ _ c.new-cursor.ensures c.in-Ok.ensures (omega arith) t

pub returns-in-Err-Syntax-clause-only : goal.returns-in-Err-Syntax-clause-only
returns-in-Err-Syntax-clause-only c = λ e t. absurd ((stopped _ _ _ c.new-cursor.ensures (rw c.in-Err-Syntax.field-0-is at c.in-Err-Syntax.ensures)).none e t)

pub returns-in-Err-Syntax-clause-refused : goal.returns-in-Err-Syntax-clause-refused
returns-in-Err-Syntax-clause-refused c = (c.contract.new.cursor, stopped _ _ _ c.new-cursor.ensures (rw c.in-Err-Syntax.field-0-is at c.in-Err-Syntax.ensures), c.place-in-Err-Syntax.ensures)
