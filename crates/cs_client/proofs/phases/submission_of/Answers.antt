use Rattle.std.proofs.Common.{ap, ◌∙◌}
use Rattle.cs_client.specs.Nodes.{nodes_of_shards}
use Rattle.cs_client.specs.Voices.{IsUnheard, VoicesFit}
use Rattle.cs_client.proofs.Counted.{each-paired}
use Rattle.cs_client.proofs.phases.submission_of.Goals as goal

pub returns-clause-fits : goal.returns-clause-fits
returns-clause-fits c =
    let f = c.args.errand.now.config.f in
    record {
      fits = c.requires;
      digest_is = c.in_ok-digest.ensures;
      nodes_are = c.in_ok-nodes.ensures ∙ ap (nodes_of_shards f) (c.deref.ensures.value ∙ c.in_ok-shards.ensures);
      voices = each-paired (IsUnheard f) (VoicesFit f) (λ shard v blank. (blank.accepted.members, blank.aborted.members)) c.deref-2.result.now c.in_ok-voices.voices.items c.in_ok-voices.ensures;
    }
