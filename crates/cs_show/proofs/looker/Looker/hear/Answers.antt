use Rattle.cs_io.specs.declared.link.MemInput.TheVariants as came
use Rattle.cs_show.proofs.Heard.{hears-so}
use Rattle.cs_show.proofs.looker.Looker.hear.Goals as goal

pub returns : goal.returns
returns c = λ k past stands. record {
  lookup_is = stands.lookup_is;
  asks_are = stands.asks_are;
  words_are =
      hears-so c.args.self.lookup k past (came.Datagram c.args.bytes.now) c.args.self.words.items c.hear.new.words.items stands.lookup_is
      (c.in_ok-hear.ensures past) stands.words_are;
}
