use Rattle.std.proofs.Common.{◌≡◌, ◌≤◌, length, refl, sym, ap, arith}
use Rattle.std.proofs.lemmas.List.{length-take-le}
use Rattle.tor_io.proofs.ShelfLemmas.{room}
use Rattle.tor_io.proofs.file_shelf.FileShelfShelf.read.Goals as goal
use Rattle.tor_io.proofs.file_shelf.FileShelfShelf.read.Goals.{else-is_empty-2-via-else-is_empty-2, else-is_empty-2-via-then-is_empty-2+in-None-1, else-is_empty-2-via-then-is_empty-2+in-Some+else-is_err}

pub returns-then-is_empty : goal.returns-then-is_empty
returns-then-is_empty g c = record {
  bound = (omega arith, refl);
  files = refl;
  opens = refl;
  taken = refl;
  rest = refl;
  at_end = λ _ _. tt;
  no_room = λ _. refl;
  unread = tt;
  cause = record { later = omega arith; failed = tt; quiet = refl };
  steady = λ s. s;
  steady_reads = λ s. absurd s;
}

pub returns : goal.returns
returns g c = record {
  bound = tt;
  files = refl;
  opens = refl;
  taken = tt;
  rest = tt;
  at_end = tt;
  no_room = λ none. absurd (omega (arith, none, room (length c.args.buf.now) c.is_empty.result c.is_empty.ensures c.if-is_empty.false));
  unread = refl;
  cause = record { later = omega (arith, c.saturating_add-self.ensures); failed = omega (arith, c.saturating_add-self.ensures); quiet = tt };
  steady = λ s. s;
  steady_reads = λ s. absurd s;
}

pub returns-2 : goal.returns-2
returns-2 g c =
    let within : c.give.result ≤ length c.give.new.buf = omega (arith, c.give.ensures.bound, c.give.auto.buf) in
    let quiet : c.else-is_empty-2.self.faults ≡ c.args.self.now.faults = elim c.else-is_empty-2.branch [
      | else-is_empty-2-via-else-is_empty-2 w ↦ ap (λ s. s.faults) w.self-is
      | else-is_empty-2-via-then-is_empty-2+in-None-1 w ↦ ap (λ s. s.faults) w.self-is
      | else-is_empty-2-via-then-is_empty-2+in-Some+else-is_err w ↦ ap (λ s. s.faults) w.self-is
    ] in
    let opens : c.else-is_empty-2.self.opens ≡ c.args.self.now.opens = elim c.else-is_empty-2.branch [
      | else-is_empty-2-via-else-is_empty-2 w ↦ ap (λ s. s.opens) w.self-is
      | else-is_empty-2-via-then-is_empty-2+in-None-1 w ↦ ap (λ s. s.opens) w.self-is
      | else-is_empty-2-via-then-is_empty-2+in-Some+else-is_err w ↦ ap (λ s. s.opens) w.self-is
    ] in record {
      bound = (within, sym (length-take-le c.give.result c.give.new.buf within));
      files = refl;
      opens = ap (λ o. o.names) opens;
      taken = refl;
      rest = c.give.ensures.rest;
      at_end = λ _ _. tt;
      no_room = λ none. absurd (omega (arith, none, room (length c.args.buf.now) c.is_empty.result c.is_empty.ensures c.if-is_empty.false));
      unread = tt;
      cause = record { later = omega (arith, quiet); failed = tt; quiet = quiet };
      steady = λ s. s;
      steady_reads = λ s. absurd s;
    }
