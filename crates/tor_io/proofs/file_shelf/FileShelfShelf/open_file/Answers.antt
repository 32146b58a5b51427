use Rattle.std.proofs.Common.{refl, arith}
use Rattle.tor_io.proofs.ShelfLemmas.{is_gone, is_memory, is_open, named}
use Rattle.tor_io.proofs.file_shelf.FileShelfShelf.open_file.Goals as goal

pub returns-then-is_err : goal.returns-then-is_err
returns-then-is_err g c = record {
  files = refl;
  opens = named _ c.args.self.now.opens.names _ _ c.add.ensures c.as_bytes.ensures.value;
  opened = tt;
  refused = refl;
  later = omega arith;
  quiet = tt;
  failed = λ e. absurd (is_memory e);
  memory = λ _. refl;
  steady = λ s. s;
  steady_failed = λ s _. absurd s;
}

pub returns-in-Ok : goal.returns-in-Ok
returns-in-Ok g c = record {
  files = refl;
  opens = named _ c.args.self.now.opens.names _ _ c.add.ensures c.as_bytes.ensures.value;
  opened = refl;
  refused = tt;
  later = omega arith;
  quiet = refl;
  failed = λ e. absurd (is_open _ e);
  memory = λ _. refl;
  steady = λ s. s;
  steady_failed = λ s _. absurd s;
}

pub returns-in-Err : goal.returns-in-Err
returns-in-Err g c = record {
  files = refl;
  opens = named _ c.args.self.now.opens.names _ _ c.add.ensures c.as_bytes.ensures.value;
  opened = tt;
  refused = refl;
  later = omega arith;
  quiet = tt;
  failed = λ e. absurd (is_memory e);
  memory = λ _. refl;
  steady = λ s. s;
  steady_failed = λ s _. absurd s;
}

pub returns-in-Err-2 : goal.returns-in-Err-2
returns-in-Err-2 g c = record {
  files = refl;
  opens = named _ c.args.self.now.opens.names _ _ c.add.ensures c.as_bytes.ensures.value;
  opened = tt;
  refused = refl;
  later = omega (arith, c.saturating_add-self.ensures);
  quiet = tt;
  failed = λ _. omega (arith, c.saturating_add-self.ensures);
  memory = λ e. absurd (is_gone e);
  steady = λ s. s;
  steady_failed = λ s _. absurd s;
}
