use Rattle.std.proofs.Common.{◌<◌, length, sym, ap, ◌∙◌, if◌then◌else◌, bytes_eq, arith}
use Rattle.cs_client.specs.Kept.{with_word, word_of_name}
use Rattle.cs_client.proofs.Believing.{default-free, next-set, next-kept}
use Rattle.cs_client.proofs.beliefs.hear_words.Goals as goal
use Rattle.cs_client.proofs.beliefs.hear_words.Goals.{then-eq+in_ok-hear_word, else-eq}

pub loop-i-preserved : goal.loop-i-preserved
loop-i-preserved c =
    let f = c.args.config.now.f in
    let name = c.args.name.now in
    let all = c.args.asked.now in
    let now = c.loop-i.asked in
    let i = c.loop-i.i in
    let one = c.index-asked-i.result in
    let change = with_word f c.args.index c.args.word.now in
    let less : i < length all = c.loop-i-test.true in
    let within : i < length now = omega arith in
    elim c.if-eq.branch [
      | then-eq+in_ok-hear_word w ↦
          let same = ap (λ a. bytes_eq a.name name) c.index-asked-i.is ∙ (sym c.eq.ensures ∙ w.if-eq.true) in
          w.asked-is
          ∙ next-set (word_of_name f name c.args.index c.args.word.now) all now i one less c.loop-i.invariant c.index-asked-i.is w.hear_word.new.asked
          (w.in_ok-hear_word.ensures
          ∙ (ap change (default-free now i w.index-asked-i-then-eq.result one within ∙ sym c.index-asked-i.is)
          ∙ sym (ap (λ t. if t then change one else one) same)))
      | else-eq w ↦
          let other = ap (λ a. bytes_eq a.name name) c.index-asked-i.is ∙ (sym c.eq.ensures ∙ w.if-eq.false) in
          w.asked-is
          ∙ next-kept (word_of_name f name c.args.index c.args.word.now) all now i one less c.loop-i.invariant c.index-asked-i.is
          (sym (ap (λ t. if t then change one else one) other))
    ]
