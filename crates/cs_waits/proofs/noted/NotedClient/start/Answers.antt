use Rattle.cs_waits.proofs.noted.NotedClient.start.Goals as goal

pub returns : goal.returns
returns c = λ e stands. record { client = stands; notes = c.in_ok-notes.ensures e stands }
