use Rattle.std.proofs.lemmas.Result.{on_err_weaker}
use Rattle.cs_lang_print.proofs.Begun.{unchanged, further, put}
use Rattle.cs_lang_print.proofs.statements.put_make.Goals as goal

pub returns-clause-front : goal.returns-clause-front
returns-clause-front c =
    let old = c.args.out.now.items in
    let first = put c.put_word.new.out.items old old _ c.in_ok-put_word.ensures.text (unchanged old) in
    let second = put c.put_name.new.out.items c.put_word.new.out.items old _ c.in_ok-put_name.ensures.text first in
    let third = put c.put_word-2.new.out.items c.put_name.new.out.items old _ c.in_ok-put_word-2.ensures.text second in
    let fourth = put c.put_name-2.new.out.items c.put_word-2.new.out.items old _ c.in_ok-put_name-2.ensures.text third in
    let fifth = put c.put_arguments.new.out.items c.put_name-2.new.out.items old _ c.in_ok-put_arguments.ensures.text fourth in
    on_err_weaker c.put_ending.result (λ began. further c.put_ending.new.out.items c.put_arguments.new.out.items old began fifth) c.put_ending.ensures.front
