-- From what a call of `next` says of its file to what the file says of the answer.
use Rattle.std.proofs.Common.{◌≡◌, ℕ, ◌⊎◌, inl, inr, true, false, List, [], ◌∷◌, Option, Some, None, Ok, Err, IfSome, refl, sym, ap, subst, ◌∙◌}
use Rattle.std.proofs.Math.Path.{ap₂}
use Rattle.std.specs.Prelude.{IsErrOf}
use Rattle.std.proofs.lemmas.Option.{same_Some}
use Rattle.mrt_frame.specs.declared.error.FrameError.{FrameError}
use Rattle.mrt_frame.specs.declared.error.FrameError.TheVariants as errors
use Rattle.mrt_frame.specs.declared.cursor.Record as lent
use Rattle.mrt_frame.specs.declared.header.At.{At}
use Rattle.mrt_header.specs.declared.record_kind.RecordKind.{RecordKind}
use Rattle.mrt_frame.specs.Frames.{PassesOver, FindsNext, StopsWith, end_of_error, record_as}
use Rattle.mrt_header.specs.Kinds.{is_read}
use Rattle.mrt_frame.specs.Records.{Record, Next, RecordsEnd, Well, HeadCut, TooManyBytes, Oversize, BodyCut, Ends, Holds, place_behind, next_of}
use Rattle.mrt_frame.specs.Steps.{NextRecord, YieldsRecord, HasFailed, lent_record}

-- nothing that is passed over
abbrev IsLast : Next → Type 0
IsLast (Ends end) = Unit {0}
IsLast (Holds r rest) = is_read r.kind r.subtype ≡ true

not_last : (next : Next) (r : Record) (rest : List ℕ) → next ≡ Holds r rest → is_read r.kind r.subtype ≡ false → IsLast next → ⊥
not_last next r rest is not last = let read : is_read r.kind r.subtype ≡ true = subst IsLast is last in cc

same_record : (q r : Record) (rest others : List ℕ) → Holds q rest ≡ Holds r others → q ≡ r
same_record q r rest others is = cc

same_rest : (q r : Record) (rest others : List ℕ) → Holds q rest ≡ Holds r others → rest ≡ others
same_rest q r rest others is = cc

-- what stands behind the records that are passed over is one
one_next : (records others : List Record) (at : At) (octets : List ℕ) (a : At) (o : List ℕ) (b : At) (p : List ℕ) → PassesOver records at octets a o → PassesOver others at octets b p
    → IsLast (next_of a o) → IsLast (next_of b p) → next_of a o ≡ next_of b p
one_next [] [] at octets a o b p first second last also = ap₂ next_of first.0 first.1 ∙ sym (ap₂ next_of second.0 second.1)
one_next [] (q ∷ others) at octets a o b p first second last also = absurd (not_last (next_of a o) q second.0 (ap₂ next_of first.0 first.1 ∙ second.1) second.2 last)
one_next (r ∷ records) [] at octets a o b p first second last also = absurd (not_last (next_of b p) r first.0 (ap₂ next_of second.0 second.1 ∙ first.1) first.2 also)
one_next (r ∷ records) (q ∷ others) at octets a o b p first second last also =
    let both : Holds q second.0 ≡ Holds r first.0 = sym second.1 ∙ first.1 in
    let more : PassesOver others (place_behind r) first.0 b p =
    subst (λ (t : List ℕ). PassesOver others (place_behind r) t b p) (same_rest q r second.0 first.0 both)
    (subst (λ (x : Record). PassesOver others (place_behind x) second.0 b p) (same_record q r second.0 first.0 both) second.3) in
    one_next records others (place_behind r) first.0 a o b p first.3 more last also

last_found : (r : Record) (rest : List ℕ) (next : Next) → next ≡ Holds r rest → is_read r.kind r.subtype ≡ true → IsLast next
last_found r rest next is read = subst IsLast (sym is) read

last_end : (end : RecordsEnd) (next : Next) → next ≡ Ends end → IsLast next
last_end end next is = subst IsLast (sym is) tt

found_once : (at : At) (octets : List ℕ) (q r : Record) (left other : Option (List ℕ)) → FindsNext at octets q left → FindsNext at octets r other → q ≡ r
found_once at octets q r left other f g =
    let both = one_next f.passes.0 g.passes.0 at octets q.at f.reached r.at g.reached f.passes.1 g.passes.1 (last_found q f.rest _ f.stands f.read) (last_found r g.rest _ g.stands g.read) in
    same_record q r f.rest g.rest (sym f.stands ∙ both ∙ g.stands)

same_end : (x y : RecordsEnd) → Ends x ≡ Ends y → x ≡ y
same_end x y is = cc

stopped_once : (at : At) (octets : List ℕ) (x y : RecordsEnd) → StopsWith at octets x → StopsWith at octets y → x ≡ y
stopped_once at octets x y s t =
    let both = one_next s.passes.0 t.passes.0 at octets s.place s.reached t.place t.reached s.passes.1 t.passes.1 (last_end x _ s.stands) (last_end y _ t.stands) in
    same_end x y (sym s.stands ∙ both ∙ t.stands)

apart : (r : Record) (rest : List ℕ) (end : RecordsEnd) → Holds r rest ≡ Ends end → ⊥
apart r rest end is = cc

not_both : (at : At) (octets : List ℕ) (r : Record) (left : Option (List ℕ)) (end : RecordsEnd) → FindsNext at octets r left → StopsWith at octets end → ⊥
not_both at octets r left end f s =
    let both = one_next f.passes.0 s.passes.0 at octets r.at f.reached s.place s.reached f.passes.1 s.passes.1 (last_found r f.rest _ f.stands f.read) (last_end end _ s.stands) in
    apart r f.rest end (sym f.stands ∙ both ∙ s.stands)

-- the file bears the answer out
abbrev pub Matches : NextRecord → At → List ℕ → Option (List ℕ) → Type 0
Matches (Ok (Some lent)) at octets left = FindsNext at octets (lent_record lent) left
Matches (Ok None) at octets left = StopsWith at octets Well
Matches (Err e) at octets left = IfSome (end_of_error e) (λ end. StopsWith at octets end)

pub record Converse (result : NextRecord) (at : At) (octets : List ℕ) : Type 0 where
  pub record_is_given : (r : Record) (rest : List ℕ) → FindsNext at octets r (Some rest) → YieldsRecord result r ⊎ HasFailed result
  pub end_is_none : StopsWith at octets Well → (result ≡ Ok None) ⊎ HasFailed result
  pub stop_is_error : (e : FrameError) (end : RecordsEnd) → end_of_error e ≡ Some end → StopsWith at octets end → IsErrOf result e ⊎ HasFailed result

well_is_no_error : (e : FrameError) → end_of_error e ≡ Some Well → ⊥
well_is_no_error (errors.HeadCut at) is = cc
well_is_no_error (errors.BodyCut at) is = cc
well_is_no_error (errors.Oversize at) is = cc
well_is_no_error errors.TooManyBytes is = cc
well_is_no_error errors.ReadFault is = cc
well_is_no_error errors.NoMemory is = cc

-- the answer that its own error is, where that names no end
no_end : (e : FrameError) → end_of_error e ≡ None → HasFailed (Err e)
no_end (errors.HeadCut at) is = absurd cc
no_end (errors.BodyCut at) is = absurd cc
no_end (errors.Oversize at) is = absurd cc
no_end errors.TooManyBytes is = absurd cc
no_end errors.ReadFault is = inl refl
no_end errors.NoMemory is = inr refl

abbrev of_end : RecordsEnd → FrameError
of_end Well = errors.NoMemory
of_end (HeadCut at) = errors.HeadCut at
of_end TooManyBytes = errors.TooManyBytes
of_end (Oversize at) = errors.Oversize at
of_end (BodyCut at) = errors.BodyCut at

error_of_end : (e : FrameError) (end : RecordsEnd) → end_of_error e ≡ Some end → e ≡ of_end end
error_of_end (errors.HeadCut at) end is = ap of_end (same_Some (HeadCut at) end is)
error_of_end (errors.BodyCut at) end is = ap of_end (same_Some (BodyCut at) end is)
error_of_end (errors.Oversize at) end is = ap of_end (same_Some (Oversize at) end is)
error_of_end errors.TooManyBytes end is = ap of_end (same_Some TooManyBytes end is)
error_of_end errors.ReadFault end is = absurd cc
error_of_end errors.NoMemory end is = absurd cc

-- an error is given by the end that it names
one_error : (e other : FrameError) (end : RecordsEnd) → end_of_error e ≡ Some end → end_of_error other ≡ Some end → e ≡ other
one_error e other end is also = error_of_end e end is ∙ sym (error_of_end other end also)

of_error : (e : FrameError) (at : At) (octets : List ℕ) (known : Option RecordsEnd) → end_of_error e ≡ known → IfSome known (λ end. StopsWith at octets end) → Converse (Err e) at octets
of_error e at octets None is matches = record {
  record_is_given = λ r rest f. inr (no_end e is);
  end_is_none = λ s. inr (no_end e is);
  stop_is_error = λ other end known s. inr (no_end e is);
}
of_error e at octets (Some end) is matches = record {
  record_is_given = λ r rest f. absurd (not_both at octets r (Some rest) end f matches);
  end_is_none = λ s. absurd (well_is_no_error e (is ∙ ap (λ (x : RecordsEnd). Some x) (stopped_once at octets end Well matches s)));
  stop_is_error = λ other last known s. inl (ap (λ (x : FrameError). Err x) (one_error e other last (is ∙ ap (λ (x : RecordsEnd). Some x) (stopped_once at octets end last matches s)) known));
}

pub converse : (result : NextRecord) (at : At) (octets : List ℕ) (left : Option (List ℕ)) → Matches result at octets left → Converse result at octets
converse (Ok (Some lent)) at octets left matches = record {
  record_is_given = λ r rest f. inl (found_once at octets (lent_record lent) r left (Some rest) matches f);
  end_is_none = λ s. absurd (not_both at octets (lent_record lent) left Well matches s);
  stop_is_error = λ e end known s. absurd (not_both at octets (lent_record lent) left end matches s);
}
converse (Ok None) at octets left matches = record {
  record_is_given = λ r rest f. absurd (not_both at octets r (Some rest) Well f matches);
  end_is_none = λ s. inl refl;
  stop_is_error = λ e end known s. absurd (well_is_no_error e (known ∙ ap (λ (x : RecordsEnd). Some x) (stopped_once at octets end Well s matches)));
}
converse (Err e) at octets left matches = of_error e at octets (end_of_error e) refl matches

-- the same where the octets are known
pub record Conversely (result : NextRecord) (before : Option (List ℕ)) (at : At) : Type 0 where
  pub record_is_given : IfSome before (λ octets. (r : Record) (rest : List ℕ) → FindsNext at octets r (Some rest) → YieldsRecord result r ⊎ HasFailed result)
  pub end_is_none : IfSome before (λ octets. StopsWith at octets Well → (result ≡ Ok None) ⊎ HasFailed result)
  pub stop_is_error : IfSome before (λ octets. (e : FrameError) (end : RecordsEnd) → end_of_error e ≡ Some end → StopsWith at octets end → IsErrOf result e ⊎ HasFailed result)

pub conversely : (result : NextRecord) (before : Option (List ℕ)) (at : At) (left : Option (List ℕ)) → IfSome before (λ octets. Matches result at octets left) → Conversely result before at
conversely result None at left matches = record { record_is_given = tt; end_is_none = tt; stop_is_error = tt }
conversely result (Some octets) at left matches =
    let c = converse result at octets left matches in
    record { record_is_given = c.record_is_given; end_is_none = c.end_is_none; stop_is_error = c.stop_is_error }

-- an error says of the octets what they say where it names an end
pub of_octets : (known : Option RecordsEnd) (before : Option (List ℕ)) (at : At) → IfSome known (λ end. IfSome before (λ octets. StopsWith at octets end))
    → IfSome before (λ octets. IfSome known (λ end. StopsWith at octets end))
of_octets None None at h = tt
of_octets None (Some octets) at h = tt
of_octets (Some end) None at h = tt
of_octets (Some end) (Some octets) at h = h

-- the record that is lent is the one that was found
pub same_seen : (at : At) (kind : RecordKind) (body : List ℕ) (r : lent.Record) → r.at ≡ at → r.kind ≡ kind → r.body.now ≡ body → record_as at kind body ≡ lent_record r
same_seen at kind body r place same octets =
    ap (λ (a : At). record_as a kind body) (sym place) ∙ ap (λ (k : RecordKind). record_as r.at k body) (sym same)
    ∙ ap (λ (b : List ℕ). record_as r.at r.kind b) (sym octets)
