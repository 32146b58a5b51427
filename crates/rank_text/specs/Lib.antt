pub mod RankText
