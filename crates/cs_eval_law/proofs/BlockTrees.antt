-- What is told of a statement or a block, what it means and whether it fits, each from its own parts.
use Rattle.std.proofs.Common.{◌≡◌, ℕ, Bool}
use Rattle.cs_lang.specs.declared.tree.ContractTree.{ContractTree}
use Rattle.cs_lang.specs.declared.tree.Block.{Block, roll-Block, map-Block}
use Rattle.cs_lang.specs.declared.tree.Statement.{Statement, roll-Statement, map-Statement}
use Rattle.cs_lang.specs.declared.tree.Action.{Action, roll-Action, map-Action}
use Rattle.cs_lang.specs.declared.tree.Action.TheOpen.{Block-F, Statement-F, Action-F}
use Rattle.cs_lang.specs.declared.tree.Action.TheFolds.{fold-roll-Action, fold-roll-Block, fold-roll-Statement}
use Rattle.cs_lang.specs.Fits.{action_layer_fits, block_layer_fits, statement_layer_fits, action_fits, block_fits, statement_fits}
use Rattle.cs_types.specs.Stating.{Blocked, Stated}
use Rattle.cs_types.specs.Blocks.{Acted, action_from_parts, block_from_parts, statement_from_parts, action_told, block_told, statement_told}
use Rattle.cs_eval_values.specs.declared.view.View.{View}
use Rattle.cs_eval_law.specs.Acting.{Naming, action_means, block_means, statement_means, action_run, block_run, statement_run}

abbrev pub action_parts : Action-F Action Block Statement → Action-F Acted Blocked Stated
action_parts x = map-Action Action Block Statement Acted Blocked Stated action_told block_told statement_told x

pub told_action : (x : Action-F Action Block Statement) → action_told (roll-Action x) ≡ action_from_parts (action_parts x)
unfolding action_told block_told statement_told
told_action x = fold-roll-Action Acted Blocked Stated action_from_parts block_from_parts statement_from_parts x

pub told_block : (x : Block-F Action Block Statement) → block_told (roll-Block x) ≡ block_from_parts (map-Block Action Block Statement Acted Blocked Stated action_told block_told statement_told x)
unfolding action_told block_told statement_told
told_block x = fold-roll-Block Acted Blocked Stated action_from_parts block_from_parts statement_from_parts x

pub told_statement : (x : Statement-F Action Block Statement) → statement_told (roll-Statement x) ≡ statement_from_parts (map-Statement Action Block Statement Acted Blocked Stated action_told block_told statement_told x)
unfolding action_told block_told statement_told
told_statement x = fold-roll-Statement Acted Blocked Stated action_from_parts block_from_parts statement_from_parts x

module _ (contract : ContractTree) (view : View) where
  abbrev pub action_from : Action-F Action Block Statement → Action-F (ℕ → Naming) Naming Naming
  action_from x = map-Action Action Block Statement (ℕ → Naming) Naming Naming (action_run contract view) (block_run contract view) (statement_run contract view) x

  pub meant_action : (x : Action-F Action Block Statement)
      → action_run contract view (roll-Action x) ≡ action_means contract view (action_from x)
  unfolding action_run block_run statement_run
  meant_action x = fold-roll-Action (ℕ → Naming) Naming Naming (action_means contract view) (block_means contract view) (statement_means contract view) x

  pub meant_block : (x : Block-F Action Block Statement)
      → block_run contract view (roll-Block x) ≡ block_means contract view (map-Block Action Block Statement (ℕ → Naming) Naming Naming (action_run contract view) (block_run contract view) (statement_run contract view) x)
  unfolding action_run block_run statement_run
  meant_block x = fold-roll-Block (ℕ → Naming) Naming Naming (action_means contract view) (block_means contract view) (statement_means contract view) x

  pub meant_statement : (x : Statement-F Action Block Statement)
      → statement_run contract view (roll-Statement x) ≡ statement_means contract view (map-Statement Action Block Statement (ℕ → Naming) Naming Naming (action_run contract view) (block_run contract view) (statement_run contract view) x)
  unfolding action_run block_run statement_run
  meant_statement x = fold-roll-Statement (ℕ → Naming) Naming Naming (action_means contract view) (block_means contract view) (statement_means contract view) x

abbrev pub action_fit : Action-F Action Block Statement → Action-F Bool Bool Bool
action_fit x = map-Action Action Block Statement Bool Bool Bool action_fits block_fits statement_fits x

pub fit_action : (x : Action-F Action Block Statement) → action_fits (roll-Action x) ≡ action_layer_fits (action_fit x)
unfolding action_fits block_fits statement_fits
fit_action x = fold-roll-Action Bool Bool Bool action_layer_fits block_layer_fits statement_layer_fits x

pub fit_block : (x : Block-F Action Block Statement) → block_fits (roll-Block x) ≡ block_layer_fits (map-Block Action Block Statement Bool Bool Bool action_fits block_fits statement_fits x)
unfolding action_fits block_fits statement_fits
fit_block x = fold-roll-Block Bool Bool Bool action_layer_fits block_layer_fits statement_layer_fits x

pub fit_statement : (x : Statement-F Action Block Statement) → statement_fits (roll-Statement x) ≡ statement_layer_fits (map-Statement Action Block Statement Bool Bool Bool action_fits block_fits statement_fits x)
unfolding action_fits block_fits statement_fits
fit_statement x = fold-roll-Statement Bool Bool Bool action_layer_fits block_layer_fits statement_layer_fits x
