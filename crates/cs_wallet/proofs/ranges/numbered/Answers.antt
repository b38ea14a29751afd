use Rattle.std.proofs.Common.{ℕ, ◌+◌, List, drop, sym, ap, subst, ◌∙◌}
use Rattle.cs_wallet.specs.File.{numbered}
use Rattle.cs_wallet.specs.Fitting.{AllSignedFit}
use Rattle.cs_wallet.proofs.Numbered.{ahead, numbered_more}
use Rattle.cs_wallet.proofs.Fits.{fits_push}
use Rattle.cs_wallet.proofs.ranges.numbered.Goals as goal

pub loop-entry-preserved : goal.loop-entry-preserved
loop-entry-preserved c =
    let entries = c.args.entries.now in
    let i = c.loop-entry.entry-index in
    let used = c.loop-entry.used in
    let signed = c.in_ok-signed.signed in
    record {
      read = c.loop-entry.invariant.read
          ∙ (numbered_more entries i _ used signed c.loop-entry-test.true (sym c.in_ok-signed.ensures.given)
          ∙ ap (λ (u : List (ℕ × List ℕ)). ahead u (numbered (drop (i + 1) entries))) (sym c.in_ok-push.ensures.ok));
      fits = subst AllSignedFit (sym c.in_ok-push.ensures.ok) (fits_push used signed c.loop-entry.invariant.fits c.in_ok-signed.ensures.fits);
    }
