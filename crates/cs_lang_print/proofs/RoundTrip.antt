-- What was printed of a contract that was read is read as the same contract, but for places.
use Rattle.std.specs.Prelude.{ℕ, ◌≤◌, List, length}
use Rattle.std.proofs.Common.{arith}
use Rattle.cs_lang.specs.declared.tree.ContractTree.{ContractTree}
use Rattle.cs_lang.specs.Texts.{IsContract, HasText}
use Rattle.cs_lang_print.specs.Texts.{contract_text}
use Rattle.cs_lang_print.specs.Again.{ContractIsReadAgain}
use Rattle.cs_lang_print.proofs.Puts.{all_tokens}
use Rattle.cs_lang_print.proofs.Says.{allowed, plain_allowed, within_allowed}
use Rattle.cs_lang_token.proofs.Sources.{source_fine}
use Rattle.cs_lang_print.proofs.Wholes.{contract_good}

enough : ℕ
enough = 65

is_enough : 65 ≤ enough
unfolding enough
is_enough = omega arith

again_of : (text : List ℕ) (c : ContractTree) → IsContract text c → length (contract_text c) ≤ 65536 → ContractIsReadAgain c
again_of text c is short =
    let s = is.spells in
    let fine = source_fine text is.tokens s.marks is.read s.tokens in
    let good = (contract_good s.depth).give c s.marks s.spells s.within fine in
    let spoken = (good enough is_enough).at 0 in
    record {
      again = spoken.thing;
      read = record {
        short = short;
        tokens = spoken.tokens;
        read = all_tokens (contract_text c) spoken.tokens spoken.puts;
        spells = record {
          depth = enough;
          marks = allowed spoken.tokens;
          spells = spoken.spells;
          tokens = plain_allowed spoken.tokens;
          within = within_allowed spoken.tokens;
        };
      };
      same = spoken.same;
    }

pub read_again : (c : ContractTree) → HasText c → length (contract_text c) ≤ 65536 → ContractIsReadAgain c
read_again c h short = again_of h.text c h.is short
