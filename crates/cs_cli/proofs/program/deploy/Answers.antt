use Rattle.cs_cli.proofs.Doing.{node-does, client-does, tries-do, session-does, show-does, keys-does, cluster-does}
use Rattle.std.proofs.Common.{refl}
use Rattle.cs_cli.specs.declared.deployments.Deployment.TheVariants.{Node, Client, ClientTries, ClientSession, Show, Keys, Cluster}
use Rattle.cs_cli.proofs.Leaving.{deployment-leaves}
use Rattle.cs_cli.proofs.program.deploy.Goals as goal

pub returns-in-Node-clause-deploys : goal.returns-in-Node-clause-deploys
returns-in-Node-clause-deploys g c = λ source source'.
    node-does _ _ _ _ c.in-Node.site c.in-Node.keys c.in-Node.hosts c.in-Node.until _ _ _ c.args.deployment c.in-Node.is c.word_at-site.ensures c.word_at-keys.ensures c.word_if-hosts.ensures
    (record { runs = c.run_node.ensures.runs; kept = c.run_node.ensures.kept; whole = c.run_node.ensures.whole })

pub returns-in-Client-clause-deploys : goal.returns-in-Client-clause-deploys
returns-in-Client-clause-deploys g c = λ source source'.
    client-does _ _ _ _ c.in-Client.site c.in-Client.keys c.in-Client.call c.in-Client.hosts c.in-Client.until _ _ _ _ c.args.deployment c.in-Client.is c.word_at-site-in-Client.ensures c.word_at-keys-in-Client.ensures c.word_at-call.ensures c.word_if-hosts-in-Client.ensures
    (record { runs = c.run_client.ensures.runs; kept = c.run_client.ensures.kept; whole = c.run_client.ensures.whole })

pub returns-in-ClientTries-clause-deploys : goal.returns-in-ClientTries-clause-deploys
returns-in-ClientTries-clause-deploys g c = λ source source'.
    tries-do _ _ _ _ c.in-ClientTries.site c.in-ClientTries.keys c.in-ClientTries.call c.in-ClientTries.hosts c.in-ClientTries.wishes c.in-ClientTries.until _ _ _ _ c.args.deployment c.in-ClientTries.is c.word_at-site-in-ClientTries.ensures c.word_at-keys-in-ClientTries.ensures c.word_at-call-in-ClientTries.ensures c.word_if-hosts-in-ClientTries.ensures
    (record { runs = c.run_client_tries.ensures.runs; kept = c.run_client_tries.ensures.kept; whole = c.run_client_tries.ensures.whole })

pub returns-in-ClientSession-clause-deploys : goal.returns-in-ClientSession-clause-deploys
returns-in-ClientSession-clause-deploys g c = λ source source'.
    session-does _ _ _ _ c.in-ClientSession.site c.in-ClientSession.keys c.in-ClientSession.call c.in-ClientSession.hosts c.in-ClientSession.details c.in-ClientSession.session c.in-ClientSession.until _ _ _ _ _ c.args.deployment c.in-ClientSession.is c.word_at-site-in-ClientSession.ensures c.word_at-keys-in-ClientSession.ensures c.word_at-call-in-ClientSession.ensures c.word_if-hosts-in-ClientSession.ensures c.word_at-session.ensures
    (record { runs = c.run_client_session.ensures.runs; kept = c.run_client_session.ensures.kept; whole = c.run_client_session.ensures.whole })

pub returns-in-Show-clause-deploys : goal.returns-in-Show-clause-deploys
returns-in-Show-clause-deploys g c = λ source source'.
    show-does _ _ _ _ c.in-Show.site c.in-Show.keys c.in-Show.key c.in-Show.hosts c.in-Show.until _ _ _ c.args.deployment c.in-Show.is c.word_at-site-in-Show.ensures c.word_at-keys-in-Show.ensures c.word_if-hosts-in-Show.ensures
    (record { runs = c.run_show.ensures.runs; kept = c.run_show.ensures.kept; whole = c.run_show.ensures.whole })

pub returns-in-Keys-clause-deploys : goal.returns-in-Keys-clause-deploys
returns-in-Keys-clause-deploys g c = λ source source'.
    keys-does _ _ _ _ c.in-Keys.site c.in-Keys.master _ c.args.deployment c.in-Keys.is c.word_at.ensures (record { runs = c.run_keys.ensures.runs; whole = c.run_keys.ensures.whole })

pub returns-in-Cluster-clause-deploys : goal.returns-in-Cluster-clause-deploys
returns-in-Cluster-clause-deploys g c = λ source source'.
    cluster-does _ _ _ _ c.in-Cluster.plan _ c.args.deployment c.in-Cluster.is c.word_at-in-Cluster.ensures (record { runs = c.run_cluster.ensures.runs; whole = c.run_cluster.ensures.whole })

pub returns-in-Node-clause-alone : goal.returns-in-Node-clause-alone
returns-in-Node-clause-alone g c = λ source.
    deployment-leaves _ _ (Node c.in-Node.site c.in-Node.keys c.in-Node.hosts c.in-Node.until) c.args.deployment c.in-Node.is (refl, refl)

pub returns-in-Client-clause-alone : goal.returns-in-Client-clause-alone
returns-in-Client-clause-alone g c = λ source.
    deployment-leaves _ _ (Client c.in-Client.site c.in-Client.keys c.in-Client.call c.in-Client.hosts c.in-Client.until) c.args.deployment c.in-Client.is (refl, refl)

pub returns-in-ClientTries-clause-alone : goal.returns-in-ClientTries-clause-alone
returns-in-ClientTries-clause-alone g c = λ source.
    deployment-leaves _ _ (ClientTries c.in-ClientTries.site c.in-ClientTries.keys c.in-ClientTries.call c.in-ClientTries.hosts c.in-ClientTries.wishes c.in-ClientTries.until) c.args.deployment c.in-ClientTries.is (refl, refl)

pub returns-in-ClientSession-clause-alone : goal.returns-in-ClientSession-clause-alone
returns-in-ClientSession-clause-alone g c = λ source.
    deployment-leaves _ _ (ClientSession c.in-ClientSession.site c.in-ClientSession.keys c.in-ClientSession.call c.in-ClientSession.hosts c.in-ClientSession.details c.in-ClientSession.session c.in-ClientSession.until) c.args.deployment c.in-ClientSession.is (refl, refl)

pub returns-in-Show-clause-alone : goal.returns-in-Show-clause-alone
returns-in-Show-clause-alone g c = λ source.
    deployment-leaves _ _ (Show c.in-Show.site c.in-Show.keys c.in-Show.key c.in-Show.hosts c.in-Show.until) c.args.deployment c.in-Show.is (refl, refl)

pub returns-in-Keys-clause-alone : goal.returns-in-Keys-clause-alone
returns-in-Keys-clause-alone g c = λ source.
    deployment-leaves _ _ (Keys c.in-Keys.site c.in-Keys.master) c.args.deployment c.in-Keys.is (refl, (refl, refl))

pub returns-in-Cluster-clause-alone : goal.returns-in-Cluster-clause-alone
returns-in-Cluster-clause-alone g c = λ source.
    deployment-leaves _ _ (Cluster c.in-Cluster.plan) c.args.deployment c.in-Cluster.is (refl, refl)
