-- What the settings of `tor` are made of.
use Rattle.std.proofs.Common.{◌≡◌, refl}
use Rattle.std.specs.Prelude.{List, ℕ, Option, Some, None, codes}
use Rattle.clap.specs.Words.{Row, first_of}
use Rattle.path_clean.specs.declared.cleaned.Sets.{Sets}
use Rattle.path_order.specs.declared.choice.Order.{Order}
use Rattle.tor_arena.specs.Limits.{max_paths, max_ratio}
use Rattle.tor_words.specs.declared.job.Job.{Job}
use Rattle.tor_words.specs.declared.task.Task.{Task}
use Rattle.tor_words.specs.Given.{job_in, number_or, order_or_seen, sets_or_cut, settings_in, task_in, top_or_none}

module _ (rows : List Row) (task : Task) (sets : Sets) (order : Order) (ratio most : ℕ) where
  -- what is asked for, and the values that no file has
  pub record AreChosen : Type 0 where
    pub wanted : task_in rows ≡ Some task
    pub cut : sets_or_cut (first_of (codes "as-sets") rows) ≡ Some sets
    pub taken : order_or_seen (first_of (codes "order") rows) ≡ Some order
    pub times : number_or 0 max_ratio 60 (first_of (codes "ratio") rows) ≡ Some ratio
    pub limit : number_or 1 max_paths max_paths (first_of (codes "max-paths") rows) ≡ Some most

  pub settings-are : (job : Job) (top : Option (List ℕ)) → AreChosen → top_or_none (first_of (codes "top") rows) ≡ Some top → job_in rows task ≡ Some job
      → settings_in rows ≡ Some (record { job = job; sets = sets; order = order; top = top; ratio = ratio; max_paths = most })
  settings-are job top chosen named is = rw (chosen.wanted, chosen.cut, chosen.times, chosen.limit, chosen.taken, named, is) refl

  pub no-top : AreChosen → top_or_none (first_of (codes "top") rows) ≡ None → settings_in rows ≡ None
  no-top chosen none = rw (chosen.wanted, chosen.cut, chosen.times, chosen.limit, chosen.taken, none) refl

  pub no-job : AreChosen → job_in rows task ≡ None → settings_in rows ≡ None
  no-job chosen none = by (top_or_none (first_of (codes "top") rows)) refl
    where
      by : (o : Option (Option (List ℕ))) → top_or_none (first_of (codes "top") rows) ≡ o → settings_in rows ≡ None
      by None named = no-top chosen named
      by (Some top) named = rw (chosen.wanted, chosen.cut, chosen.times, chosen.limit, chosen.taken, named, none) refl
