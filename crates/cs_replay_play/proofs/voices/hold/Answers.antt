use Rattle.std.proofs.Common.{◌≡◌, ◌<◌, List, length, get_or, subst, sym}
use Rattle.cs_wire.specs.declared.keys.Keys.{Keys}
use Rattle.cs_replay_play.specs.Voicing.{AreOfMaster}
use Rattle.cs_replay_play.proofs.Voiced.{holds-at, all-push}
use Rattle.cs_replay_play.proofs.voices.hold.Goals as goal

pub returns-in-Some-clause-held : goal.returns-in-Some-clause-held
returns-in-Some-clause-held c =
    let keys = c.args.keys.now.items in
    holds-at c.args.config.now c.args.master.now c.args.name keys c.in-Some.place c.requires
    (subst (λ (ks : List Keys). c.in-Some.place < length ks) c.as_slice.ensures.value c.in-Some.ensures.within)
    (subst (λ (ks : List Keys). (d : Keys) → (get_or ks c.in-Some.place d).me ≡ c.args.name) c.as_slice.ensures.value c.in-Some.ensures.named)

pub returns-clause-all : goal.returns-clause-all
returns-clause-all c =
    subst (λ (ks : List Keys). AreOfMaster c.args.config.now c.args.master.now ks) (sym c.in_ok-push.ensures.items)
    (all-push c.args.config.now c.args.master.now c.args.keys.now.items c.args.name _ c.requires c.in_ok-from_master.ensures)
